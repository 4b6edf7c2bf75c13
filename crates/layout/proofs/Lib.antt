-- What is proved of the layout: cells that tell of sources, lists of branches, what inputs bring, one transistor after the other.
pub mod Telling
pub mod Laid
pub mod Lists
pub mod Links
pub mod Gave
pub mod Gifts
pub mod Told
pub mod Begun
pub mod Looks
