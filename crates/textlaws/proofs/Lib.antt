-- The laws of the text's definitions, from places and parts up to what a text that is read promises.
pub mod Tests
pub mod Scanning
pub mod Parts
pub mod Lines
pub mod Readings
pub mod Appended
pub mod Numbering
pub mod Networks
pub mod Promises
pub mod Offenders
