-- The lemmas of this crate, by subject.
pub mod Prefix
pub mod Held
pub mod Bounds
pub mod RowsTrue
pub mod Meaning
pub mod RestHolds
pub mod Letters
pub mod RestGates
pub mod RestLetters
pub mod Worked
