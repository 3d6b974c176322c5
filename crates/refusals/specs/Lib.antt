-- The definitions that the contracts of this crate cite, by subject.
pub mod Layer
pub mod Refusal
