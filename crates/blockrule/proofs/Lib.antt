-- Laws of the block rule that hold at every width; the block functions of both widths cite them.
pub mod Load
pub mod Schedule
pub mod Rounds
pub mod Blocks
pub mod Parse
pub mod Forms
