-- What is proved of spreading strengths: sums, visits one after the other, one visit, the branches of a node, one level and all of them, how many visits, and the least table that they leave.
pub mod Sums
pub mod Moves
pub mod Visits
pub mod Fans
pub mod Members
pub mod Costs
pub mod Levels
pub mod Falls
pub mod Least
