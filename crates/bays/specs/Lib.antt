-- The table of bays: read from the top.
pub mod Places
pub mod Table
pub mod Bay
pub mod ByWords
pub mod Gate
