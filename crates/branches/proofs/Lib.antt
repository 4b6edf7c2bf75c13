-- What is proved once of branches: by their transistors, their number at nodes, their lists, and the codes of cells.
pub mod Ends
pub mod Degrees
pub mod Lists
pub mod Codes
