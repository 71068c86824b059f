pub mod Counted
pub mod Joined
