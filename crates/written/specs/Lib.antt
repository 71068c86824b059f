-- Lists written by calls: read from the top.
pub mod Written
pub mod Code
