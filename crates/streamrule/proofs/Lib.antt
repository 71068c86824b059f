-- Laws of the roots that a stream holds; the crates above cite them.
pub mod Ones
pub mod Folds
pub mod Subtrees
pub mod Wholes
