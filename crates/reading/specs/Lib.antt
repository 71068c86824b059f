-- What is said of a buffer that a file was read into, and of what a read answered.
pub mod Filled
pub mod Answers
