-- What a search through a table answers.
pub mod Place
