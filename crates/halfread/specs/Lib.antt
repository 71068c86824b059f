-- A half-read message: read from the top.
pub mod State
pub mod FiveRules
pub mod Steps
