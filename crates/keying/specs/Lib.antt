-- Keyed hashes that calls have made, by value and in lent words.
pub mod ByValue
pub mod InC
