-- What the list maker does with a file.
pub mod Entered
