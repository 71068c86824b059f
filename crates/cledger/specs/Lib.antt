-- The C names that were called.
pub mod Code
