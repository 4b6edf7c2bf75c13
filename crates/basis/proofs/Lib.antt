-- What code rests on: searches and tests, cells that are stored, what acceptance says, steps and runs, and what an entry leaves.
pub mod Finding
pub mod Fitting
pub mod Acceptance
pub mod Cells
pub mod Altered
pub mod Entering
pub mod Steps
pub mod Runs
pub mod Verdicts
pub mod Leaving
