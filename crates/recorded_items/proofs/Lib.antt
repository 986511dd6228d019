-- Homes    who is in a space after one note more
-- Left     one call more, behind others
-- Told     what is told of a space after one note more
-- SomeOutput    no call gives a range of output that is empty
-- ClearStrings  the strings that an execve reads have no zero byte
-- Readable      programs that are loaded, and calls that are noted, behind every event
-- ReadableRuns  and from boot on
-- ByBoots       what holds at boot
-- SameKeep      a run records one space, or none
-- KeptItems     the items are those of the stay, and have a text
-- Samples  two spaces of one run, computed from the definitions
pub mod Homes
pub mod Left
pub mod Told
pub mod SomeOutput
pub mod ClearStrings
pub mod Readable
pub mod ReadableRuns
pub mod ByBoots
pub mod SameKeep
pub mod KeptItems
mod Samples
