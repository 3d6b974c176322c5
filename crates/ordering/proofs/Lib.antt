-- The lemmas of this crate, by subject.
pub mod TieSteps
pub mod Ranges
pub mod Below
