-- What the proofs of names cite; what other crates may cite is public.
mod Mixing
pub mod Seen
pub mod Chaining
