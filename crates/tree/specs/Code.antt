-- What only the code needs, and a theorem ties to what the reader believes: nodes held in a buffer, by `root-steps` in
-- proofs/InPlace.antt, and a level in place, by `held-levelled` in proofs/Held.antt.
pub mod Held
