-- Halted     where a run has ended that ends at its first stray access
-- CallsKeep  a call notes no stray access, and leaves no pipe marked
-- ToldMemory  what a waitid leaves of the one memory
-- OutputRanges  the ranges that a call gives are ranges that an access can have
-- CallRows  the row of each call, and the effect that the code gives it
-- ByClass    what the class of a call says of its number
-- MapRows   the rows of mmap2 and munmap, and the file that an mmap2 asks for
-- Leaves     what an answer alone tells of the parts
-- CallsOn    a call of a run that goes on
-- CallEvents  it is an event of the run
-- Samples    calls of such a run, and copies that hold their file or don't, computed from the definitions
mod CallsKeep
pub mod OutputRanges
pub mod CallRows
mod ByClass
mod MapRows
mod ToldMemory
mod Leaves
pub mod CallsOn
mod CallEvents
mod Samples
pub mod Halted
