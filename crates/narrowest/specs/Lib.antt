-- The definitions that the contracts of this crate cite.
pub mod Narrower
-- Lemmas by which the two algebras show that evaluation gives the narrowest value; nothing in them needs to be believed.
pub mod Finite
pub mod Reaching
pub mod Values
pub mod Shapes
pub mod Classes
