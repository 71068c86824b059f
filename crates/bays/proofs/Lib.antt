-- Laws of the table of bays; each function's folder cites them, and so do the calls and the ledger.
pub mod Frames
pub mod LaidOut
pub mod Packing
pub mod TableByWords
pub mod BayByWords
pub mod Header
pub mod Refusals
pub mod Settled
