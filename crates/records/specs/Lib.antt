-- The definitions that the contracts of this crate cite, by subject.
pub mod Record
pub mod Fault
pub mod Next
