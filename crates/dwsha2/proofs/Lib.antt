-- Laws of hashing; each function's folder cites them, and so do the layers above.
pub mod Widths
pub mod Absorbed
pub mod Limits
pub mod Length
pub mod Digest
pub mod AtOnce
pub mod OneWay
pub mod Last
pub mod Finished
pub mod Settled
pub mod Standard
