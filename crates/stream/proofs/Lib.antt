-- Laws of a stream by value; each function's folder cites them.
pub mod Limits
pub mod Buffers
pub mod Folding
pub mod Pushing
pub mod Soundness
pub mod Rooting
pub mod Adding
pub mod Filling
pub mod Forms
pub mod Appending
pub mod Settled
