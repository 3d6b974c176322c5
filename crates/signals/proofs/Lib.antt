-- The lemmas of this crate, by subject.
pub mod Waveforms
pub mod Outputs
pub mod Later
pub mod Finals
pub mod Apart
pub mod Holding
