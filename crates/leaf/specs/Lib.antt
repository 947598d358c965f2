pub mod Cells
pub mod Values
pub mod Finding
pub mod Empty
