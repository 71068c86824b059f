-- The theorems of request 04, over the calls' own contracts.
pub mod Passing
pub mod Streams
pub mod Packed
pub mod CCalls
pub mod CStreams
pub mod Happen
