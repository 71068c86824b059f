-- What only the code needs, and a theorem ties to what the reader believes: the byte form, by `digest-bytes`.
pub mod ByteForm
