-- The night of the accident: Story has its steps.
pub mod Story
pub mod Refusals
pub mod Settled
