-- Ranges   the ranges of one program, in memory of all its pages
-- Answers  an answered call: what the item asks for, and what it leaves
-- Verdicts  how far a program goes by itself as items tell
-- Refusals  why an ELF file isn't replayed that isn't converted
-- Replays  what a replay answers
-- Loops    what the parts of the loop leave
-- Solos    the code's processes, items and runs as those of a program by itself
pub mod Ranges
pub mod Answers
pub mod Solos
pub mod Verdicts
pub mod Loops
pub mod Replays
pub mod Refusals
