-- Tells: equal texts tell of equal processes.
-- Samples: the text, computed on an example.
pub mod Tells
pub mod Samples
