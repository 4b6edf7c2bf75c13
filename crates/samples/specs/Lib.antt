-- What the model's definitions compute on random networks, against an outside program.
pub mod Samples
