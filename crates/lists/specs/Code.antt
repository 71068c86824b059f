-- What only the code needs, and a theorem ties to what the reader believes: the rules one by one, by `by-rules` in proofs/ByRules.antt, and
-- where a name belongs, by `inserted-at` in crate writer, proofs/Moves.antt.
pub mod Rules
pub mod Place
