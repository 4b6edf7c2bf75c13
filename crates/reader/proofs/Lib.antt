-- What the proofs of the entries cite, and what follows from their contracts.
pub mod Parts
pub mod Determined
pub mod Promises
