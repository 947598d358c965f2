pub mod Choice
pub mod Over
pub mod Part
pub mod Parts
pub mod Words
pub mod Compare
pub mod Order
pub mod Flags
