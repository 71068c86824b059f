-- Laws of digest lists; each function's folder cites them.
pub mod Ascending
pub mod Allowed
pub mod Written
pub mod ByRules
pub mod Walk
pub mod Places
pub mod ByNumber
pub mod Lists
pub mod Earlier
pub mod Settled
