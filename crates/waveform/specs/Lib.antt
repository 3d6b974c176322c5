-- The definitions that the contracts of this crate cite, by subject.
pub mod Algebra
pub mod Narrowest
pub mod Ops
pub mod Delay
pub mod Examples
pub mod Control
-- Lemmas by which the two algebras show their laws; nothing in them needs to be believed.
pub mod ThreeSound
pub mod Classes
pub mod ClassSound
pub mod Contains
