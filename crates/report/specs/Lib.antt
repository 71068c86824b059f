-- What the checker says of a yard: read from the top.
pub mod Reads
pub mod Report
pub mod Code
