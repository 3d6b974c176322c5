-- The lemmas of this crate, by subject.
pub mod Places
pub mod Growth
pub mod Steps
pub mod Values
pub mod Laws
