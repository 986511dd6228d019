-- StringSamples  what an execve reads and what its strings are, computed
pub mod Refusals
pub mod DigitLemmas
pub mod Room
mod StringSamples
