-- What the laws of this crate speak of, beside the model's definitions:
pub mod Ready
pub mod Answers
pub mod Lines
pub mod Call
