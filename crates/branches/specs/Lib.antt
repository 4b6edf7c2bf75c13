-- Branches, the lists of them, and the codes that work cells hold.
pub mod Branch
pub mod Code
