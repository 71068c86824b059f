-- Laws of FIPS 198-1's definitions; the crates above cite them.
pub mod Blocks
