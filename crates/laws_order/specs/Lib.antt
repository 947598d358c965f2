-- What the laws of this crate speak of:
pub mod Reading
pub mod Line
pub mod Finding
