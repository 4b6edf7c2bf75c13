-- What a network, a step, a run and an answer mean, in reading order; then what the laws about them speak of.
pub mod Places
pub mod Bounds
pub mod Net
pub mod Run
pub mod Lent
pub mod Answer
pub mod Rules
pub mod Entries
pub mod Bench
pub mod Edges
pub mod Order
pub mod Cover
pub mod Demands
pub mod Alike
pub mod Ways
pub mod Tables
pub mod RuleOne
