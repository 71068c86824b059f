-- Numbers, words and rows of fields as bytes: read from the top.
pub mod BigEndian
pub mod Words
pub mod Rows
pub mod Code
