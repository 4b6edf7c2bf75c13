-- What the text's definitions compute on texts that were worked out by hand.
pub mod Excerpts
