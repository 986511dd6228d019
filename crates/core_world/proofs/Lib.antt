-- Intervals: where the intervals of addresses lie, and how those of two ranges join.
-- Found: who falls has a core, and the bytes of segments are few.
-- Samples: the definitions, computed on examples.
pub mod Intervals
pub mod Found
mod Samples
