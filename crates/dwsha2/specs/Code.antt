-- What only the code needs, and a theorem ties to what the reader believes: absorbing and finishing, by `digest-at-once`.
pub mod Hashing
