-- Laws of the chunk tree, by levels and by splits; the crates above cite them.
pub mod Hashes
pub mod Pieces
pub mod Levels
pub mod Powers
pub mod Splits
pub mod Root
