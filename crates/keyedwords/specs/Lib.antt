-- A keyed hash in lent words: read from the top.
pub mod Words
pub mod Calls
