-- The definitions that the contracts of this crate cite, by subject.
pub mod Separations
pub mod Check
pub mod Fault
pub mod Answer
pub mod Holding
pub mod Examples
