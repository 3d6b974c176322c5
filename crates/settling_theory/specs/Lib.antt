-- The definitions that the contracts of this crate cite, by subject.
pub mod Settled
pub mod Rest
pub mod Meaning
pub mod RestTheorems
pub mod Examples
