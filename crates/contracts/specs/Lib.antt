-- Contracts as hypotheses: read from the top.
pub mod Says
