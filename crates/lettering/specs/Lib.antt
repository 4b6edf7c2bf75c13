-- What the functions that write say to their callers.
pub mod Writing
