-- The definitions that the contracts of this crate cite, by subject.
pub mod Waveform
pub mod GateRule
pub mod Theorems
pub mod Holding
