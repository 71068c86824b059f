-- Contracts that settle what they show.
pub mod Values
