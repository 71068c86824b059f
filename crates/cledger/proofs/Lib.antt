-- The promise of the ledger, over the C names.
pub mod Ledger
