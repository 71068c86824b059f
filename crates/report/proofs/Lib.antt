pub mod Answered
pub mod Through
pub mod Verdicts
pub mod Pieces
pub mod Means
pub mod Whole
pub mod Settled
