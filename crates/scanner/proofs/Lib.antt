-- What the proofs of the scan cite.
pub mod Opening
pub mod Ends
