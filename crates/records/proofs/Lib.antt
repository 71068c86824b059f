-- Laws of the saved record; each function's folder cites them.
pub mod Forms
pub mod Records
pub mod ByRules
pub mod SavedRules
pub mod Written
pub mod ReadFields
pub mod Loading
pub mod Settled
