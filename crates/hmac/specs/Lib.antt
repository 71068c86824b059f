-- FIPS 198-1: read from the top.
pub mod Hmac
