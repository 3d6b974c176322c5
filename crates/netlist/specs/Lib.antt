-- The definitions that the contracts of this crate cite, by subject.
pub mod Circuit
pub mod Layout
pub mod Kind
pub mod Rules
pub mod Plain
pub mod View
pub mod Fault
pub mod Step
pub mod Outcome
