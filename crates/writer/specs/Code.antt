-- What only the code needs, and a theorem ties to what the reader believes: the moves of `put`, by `put-moves` in proofs/PutMoves.antt.
pub mod Moves
