-- The start of a program.
--
-- BeforeFirst  the parts before the first program
-- Loaded       a program that is loaded beside the live spaces
-- BlockBytes   what it leaves of memory
-- Regular      the parts with it are regular
-- World        they stand for the world that starts it
-- Memory       what its start leaves of the one memory
pub mod BeforeFirst
pub mod Loaded
pub mod BlockBytes
pub mod Regular
pub mod World
pub mod Memory
