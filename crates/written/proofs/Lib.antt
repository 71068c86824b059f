-- Theorems about lists that were written by calls, from laws of pairs in some order on.
pub mod Orders
pub mod Writing
pub mod Made
pub mod Happen
