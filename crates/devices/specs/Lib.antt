-- In which terms the contracts of devices speak: what was read so far, as it stands in tables with room; and how a reading ended.
pub mod Tables
pub mod Told
