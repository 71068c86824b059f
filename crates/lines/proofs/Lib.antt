pub mod Putting
pub mod Decimals
pub mod Counting
pub mod Short
pub mod Settled
