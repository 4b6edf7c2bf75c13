-- What runs that are measured and written say to their callers.
pub mod Runs
