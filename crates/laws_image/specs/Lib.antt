-- What the laws of this crate speak of, beside the model's definitions.
pub mod Marks
