pub mod Header
pub mod Free
pub mod Overflow
pub mod Inner
