-- The ledger's promise. Entries, Follows and CallByCall lead to Ledger, which has it; Alike and CallersWords stand on that.
pub mod OwnRecord
pub mod Entries
pub mod Follows
pub mod CallByCall
pub mod Ledger
pub mod Alike
pub mod CallersWords
pub mod Traces
pub mod Kept
pub mod Ends
pub mod Traced
pub mod Client
