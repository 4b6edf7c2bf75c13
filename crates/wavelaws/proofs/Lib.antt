-- The laws of the dump's definitions, from digits up to what a dumped run promises.
pub mod Iterating
pub mod Rows
pub mod Digits
pub mod Lengths
pub mod Numerals
pub mod Viewing
