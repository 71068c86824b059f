-- Laws of the calls; each function's folder cites them, and so does the ledger.
pub mod Judging
pub mod Settled
pub mod Runs
pub mod Records
pub mod NoBytes
pub mod Words
pub mod SaveLoad
