-- In which terms the contracts of names speak: the names that are known, and the chains that link them.
pub mod Known
pub mod Chains
