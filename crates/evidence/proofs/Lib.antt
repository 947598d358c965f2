-- Rows of evidence, by kind. The scripts of `Sheet` to `Chains` and their digests are those of host/ordinary/examples/bench_rows.rs, whose
-- answers are computed by an implementation that shares nothing with the definitions.
pub mod Deep
pub mod Sheet
pub mod Heights
pub mod Mended
pub mod Chains
pub mod Stocked
pub mod Refused
pub mod Damaged
pub mod Lines
pub mod Views
