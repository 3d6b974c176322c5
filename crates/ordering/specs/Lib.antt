-- The definitions that the contracts of this crate cite, by subject.
pub mod Source
pub mod Rows
pub mod Silent
pub mod SameInput
pub mod Spaced
pub mod Chain
pub mod Stem
pub mod TieTable
-- Lemmas by which the sources and layers show their laws; nothing in them needs to be believed.
pub mod ChainLaws
pub mod Below
pub mod Reading
pub mod SameInputLaws
pub mod Samples
pub mod SpacedLaws
pub mod StemLaws
pub mod Ties
