-- Digest lists: read from the top.
pub mod Order
pub mod Lists
pub mod Layout
pub mod Calls
pub mod Code
