pub mod Cells
pub mod Finding
pub mod Emptied
