-- What is proved of the entries: what a verdict gives, that each contract admits one outcome, and the demands.
mod Given
pub mod Determined
pub mod Promises
