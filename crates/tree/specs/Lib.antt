pub mod Book
pub mod Work
pub mod Going
