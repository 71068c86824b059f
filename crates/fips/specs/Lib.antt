-- The standard, FIPS 180-4, as definitions: read from the top.
pub mod Bits
pub mod Words
pub mod Primes
pub mod Roots
pub mod Block
pub mod Padding
pub mod Constants
pub mod Editions
pub mod Message
pub mod Rules
pub mod Sizes
pub mod Code
