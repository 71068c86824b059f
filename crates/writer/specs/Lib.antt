-- Writing digest lists: read from the top.
pub mod Writing
pub mod Code
