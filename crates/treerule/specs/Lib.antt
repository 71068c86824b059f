-- The chunk tree: by levels, and as RFC 6962 has it.
pub mod Root
pub mod Split
