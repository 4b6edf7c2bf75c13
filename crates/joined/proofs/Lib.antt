-- What is proved of joined sets.
pub mod Sums
pub mod Telling
pub mod Ways
pub mod Reaching
pub mod Fanning
pub mod Flooding
pub mod Beginning
pub mod Settling
pub mod Turning
