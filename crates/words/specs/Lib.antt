-- The definitions that the contracts of this crate cite, by subject.
pub mod Words
