-- What the checker says of a file, over its own contract.
pub mod Said
