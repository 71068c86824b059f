pub mod Numbers
pub mod Judged
