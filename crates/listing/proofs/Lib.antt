pub mod Rules
pub mod ByZeros
pub mod Visible
pub mod Whole
pub mod Settled
