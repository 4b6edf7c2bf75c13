-- Strengths that spread along branches: the whole table, and one level of it.
pub mod Spread
pub mod Level
