-- The chunk tree over a stream: the roots that are held, and what a chunk more makes of them.
pub mod Held
