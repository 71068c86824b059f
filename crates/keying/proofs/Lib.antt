-- Theorems about calls on a keyed hash that were made.
pub mod Passing
pub mod Leading
pub mod Pieces
pub mod CCalls
pub mod CPieces
pub mod Happen
