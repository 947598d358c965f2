-- Laws that every crate above uses:
pub mod Lists
pub mod Tests
pub mod Each
pub mod Sums
pub mod OnceEach
pub mod Descent
pub mod Editions
-- The paper's examples, by computation:
pub mod Rows
pub mod Bench
pub mod Edges
pub mod Texts
pub mod Listing
