-- Joined sets over the branches that are sure.
pub mod Sets
pub mod Floods
pub mod Kept
