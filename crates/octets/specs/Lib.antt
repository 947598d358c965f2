pub mod Choice
pub mod Says
pub mod Runs
pub mod Numbers
pub mod Laws
pub mod Keys
