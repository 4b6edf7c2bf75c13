-- Texts written one after the other, and numbers.
mod Numbers
pub mod Writes
