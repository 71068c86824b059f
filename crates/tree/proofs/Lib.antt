-- Laws of the chunk tree; each function's folder cites them.
pub mod Hashes
pub mod Held
pub mod InPlace
pub mod Settled
pub mod Refused
pub mod Rfc6962
