-- The definitions that the contracts of this crate cite, by subject.
pub mod Tables
pub mod Asked
pub mod Holding
pub mod Resting
pub mod Fault
pub mod Told
