-- What the proofs of devices cite.
mod Spelling
mod Joining
mod Midway
