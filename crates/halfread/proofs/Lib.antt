-- Laws of a half-read message; each function's folder cites them.
pub mod Sizes
pub mod Fields
pub mod Rules
pub mod Tails
pub mod Soundness
pub mod ByRules
pub mod Adding
pub mod Filling
pub mod Opening
pub mod Closing
pub mod Settled
