-- Hash at once, and what the layers above ask of lengths and closing bits: read from the top.
pub mod Limit
pub mod Closing
pub mod Passing
pub mod Hash
pub mod Code
