-- Check as the code goes about it. Read in this order:
pub mod Alone
pub mod Steps
pub mod Walk
