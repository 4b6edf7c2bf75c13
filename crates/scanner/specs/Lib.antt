-- In which terms the scan's contracts speak.
pub mod Stops
