-- What the functions within a step promise one another.
pub mod Step
