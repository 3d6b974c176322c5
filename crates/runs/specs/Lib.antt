-- The definitions that the contracts of this crate cite, by subject.
pub mod Run
pub mod GateOf
pub mod Row
pub mod RunTheorems
pub mod LivePath
pub mod Gathered
