-- Laws of keyed hashes; each function's folder cites them.
pub mod Soundness
pub mod Hashing
pub mod Keys
pub mod Adding
pub mod Messages
pub mod Judging
pub mod Settled
