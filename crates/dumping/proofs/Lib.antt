-- What the loops over steps rest on, and how the parts of a dump are the whole.
mod Going
mod Whole
