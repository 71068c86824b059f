-- What the lines say: read from the top.
pub mod Lines
pub mod Code
