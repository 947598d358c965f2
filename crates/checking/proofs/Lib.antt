-- That the walk accepts what the model does, in reading order:
pub mod Steps
pub mod Marking
pub mod Fresh
pub mod Small
pub mod Alone
pub mod Packing
pub mod Chains
pub mod Free
pub mod Cells
pub mod Between
pub mod Written
pub mod Reached
pub mod Leaf
pub mod Kids
pub mod Tree
pub mod Store
pub mod Checks
