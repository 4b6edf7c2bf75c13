-- What the extractor's text means: bytes and parts, lines, the network that they add up to, what the entries answer and leave; and texts by computation.
pub mod Bytes
pub mod Lines
pub mod Netlist
pub mod Reading
pub mod Promised
pub mod Texts
