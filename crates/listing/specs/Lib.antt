-- What the list maker says: read from the top.
pub mod Names
pub mod Rules
pub mod Shown
pub mod Says
