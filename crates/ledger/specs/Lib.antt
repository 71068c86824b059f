-- The plain ledger that the table of bays is measured by, and the promise: read from the top.
pub mod Records
pub mod Ledger
pub mod Sound
pub mod Promise
pub mod Traces
pub mod Code
pub mod Ends
