-- The laws of this crate, in reading order:
pub mod Kept
pub mod Guarded
pub mod Work
pub mod Answers
pub mod Views
pub mod Scans
pub mod Changes
pub mod Room
pub mod Levels
pub mod Values
pub mod OneLine
pub mod Batched
pub mod Sequences
pub mod Exported
pub mod Hollow
pub mod EditionOne
