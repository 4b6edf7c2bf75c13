-- What the dump of a run means: its bytes, how a viewer reads it, what the entry that writes it answers and leaves; and dumps by computation.
pub mod Dump
pub mod Viewer
