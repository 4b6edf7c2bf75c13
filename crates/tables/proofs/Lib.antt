-- What the proofs of the searches cite.
pub mod Searching
