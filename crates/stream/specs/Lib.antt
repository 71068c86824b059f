-- The chunk tree over a stream, by value: read from the top.
pub mod State
pub mod Steps
