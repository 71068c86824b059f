-- The night of the accident.
pub mod Night
pub mod Code
