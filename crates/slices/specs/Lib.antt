-- Lists and lent slices, each idea once: read in any order.
pub mod Below
pub mod Tests
pub mod AtFront
pub mod Padded
pub mod Parts
pub mod Blocks
