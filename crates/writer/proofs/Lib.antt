-- Laws of writing digest lists; each function's folder cites them.
pub mod Inserted
pub mod Fronts
pub mod MoveLaws
pub mod Moves
pub mod PutMoves
pub mod Settled
