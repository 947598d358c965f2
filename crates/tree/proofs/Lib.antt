pub mod Books
pub mod Marks
pub mod Longer
pub mod Links
pub mod Chained
pub mod Freed
