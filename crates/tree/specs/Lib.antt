-- The chunk tree of a whole map, as a call; the tree itself is in crate treerule.
pub mod Tree
pub mod Code
