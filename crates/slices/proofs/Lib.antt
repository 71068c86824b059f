-- Laws of lists and lent slices; every crate above cites them.
pub mod Below
pub mod Tests
pub mod AtFront
pub mod Padded
pub mod Fill
pub mod Parts
pub mod LiesAt
pub mod Blocks
pub mod Settled
