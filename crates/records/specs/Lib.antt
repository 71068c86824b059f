-- The saved record of a half-read message.
pub mod Record
pub mod Rules
