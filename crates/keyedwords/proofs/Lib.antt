-- Laws of a keyed hash in words; each function's folder cites them.
pub mod Packing
pub mod Judging
pub mod Settled
