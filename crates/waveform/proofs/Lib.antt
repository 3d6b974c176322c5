-- The lemmas of this crate, by subject.
pub mod Folding
pub mod Operations
pub mod Delay
pub mod Control
