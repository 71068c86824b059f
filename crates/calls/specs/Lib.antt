-- The calls on the table of bays.
pub mod Calls
