-- OwnBytes   own bytes by ranges, and by the table
-- Output     the output of a call
-- Telling    an item that tells of a call, and the processes of a program
-- CutRanges  a list of ranges of which one goes or is cut, and its table
-- Unmapping  what munmap leaves of a program's own memory
-- NewRanges  a range more: where it may lie, its table and its bytes
-- Answering  what answered calls leave
-- Begins     a program by itself, as it is loaded
-- Refusals   out of memory, and the other refusals of an ELF file
-- Placing    the verdict on a program that is placed, and why there is none
-- Judged     a verdict is yes exactly where the run by itself isn't refuted
-- Stops      how instructions end, and what the event behind them leaves
-- Loops      what is left behind an event
-- Steps      instructions are events that use no item
-- Samples    a verdict, computed on worked examples
pub mod OwnBytes
pub mod Output
pub mod Telling
pub mod CutRanges
pub mod Unmapping
pub mod NewRanges
pub mod Answering
pub mod Begins
pub mod Refusals
pub mod Placing
pub mod Judged
pub mod Steps
pub mod Stops
pub mod Loops
mod Samples
