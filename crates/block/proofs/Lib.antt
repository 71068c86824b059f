-- The block rule over a word: each function's folder has its proof, and two results of `absorb32` or `absorb64` coincide.
pub mod Values
pub mod Settled
