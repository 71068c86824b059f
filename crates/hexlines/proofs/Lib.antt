pub mod Digits
pub mod Fields
pub mod Scan
pub mod Numbers
pub mod Settled
