-- Alike     when the one memory of a run that goes on stands for a world of private spaces
-- Laws      up to the first stray access it does, at boot and along every run
-- Refusals  what a refused call leaves of the one memory
-- Marks     between two events no pipe is marked
-- OwnBytes  the bytes of a space are there exactly in its own ranges
pub mod Alike
pub mod Laws
pub mod Refusals
pub mod Marks
pub mod OwnBytes
