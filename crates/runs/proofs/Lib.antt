-- The lemmas of this crate, by subject.
pub mod Circuits
pub mod Runs
pub mod Classes
pub mod Rows
pub mod LivePaths
pub mod Tight
pub mod Flips
