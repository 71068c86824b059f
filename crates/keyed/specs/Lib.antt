-- Keyed digests by value and at once: read from the top.
pub mod State
pub mod Steps
pub mod AtOnce
