pub mod Outcome
pub mod Tests
pub mod Refusals
pub mod Settled
