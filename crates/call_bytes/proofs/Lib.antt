-- Places   places of lists
-- ReadRanges  what a call reads in one memory, range by range
-- Puts      ranges written into memory, one behind the other
-- ReadPath  the path that a call reads, byte by byte, and which reading is whose
-- ReadStrings  the strings that an execve reads, each one behind its pointer
-- StringLists  the strings of a list, parsed from the front
-- Limit     which strings are too long
-- LimitSamples  strings in memory, on worked examples
pub mod Places
pub mod Puts
pub mod ReadRanges
pub mod ReadPath
pub mod ReadStrings
pub mod StringLists
pub mod Limit
mod LimitSamples
