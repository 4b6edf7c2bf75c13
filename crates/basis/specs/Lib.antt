-- What the contracts of the floors above say to one another: of tables that were accepted, of cells that are written, of steps and runs.
pub mod Sound
pub mod Cells
pub mod Steps
