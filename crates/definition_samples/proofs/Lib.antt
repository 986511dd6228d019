-- Exits  a program of two instructions, and worlds in which it runs
-- AloneSamples  the program by itself, from its loading to its end
-- StaysSamples  its stays, and what is told of them
-- RightSamples  what is right of stays for a world, and what is told wrongly
-- VforkSamples  the stay of a program that makes a vfork child
-- AloneEndSamples   how the program ends alone, and where its end is told
-- WaitsSamples  a process that waits on a pipe, an empty one and one with a byte
-- LentSamples   a process that stands still for its vfork child
-- TreeSamples   trees of names, and nodes that aren't one
-- CountSamples  open files, their counts, and counts that are wrong
-- OrderSamples  a world in which both are right, and two in which one isn't
-- SoundSamples  a sound world, and worlds that aren't sound
-- OrderedSamples  a world in order, and three that aren't
-- CopySamples   two spaces that share a copy of a file's page, and what isn't shared or copied so
-- RegularSamples  a regular world, a bounded one and one memory that is so, and such as aren't
-- ImageSamples  the image of a small ELF file, at two bases
-- CallSamples   calls on descriptors
-- NameSamples   calls on folders and names
-- PieceSamples  calls that move pieces, and calls that change little or nothing
-- EndSamples    a process that dies
-- HaltedSamples where a run has ended that ends at its first stray access
-- FamilySamples  waitid and execve as whole events
-- LineSamples   the lines of notes
-- PartsSamples  the world that the parts of a machine stand for
-- WatchSamples  instructions one after the other, and what a watch lets pass
-- WordSamples  words of instructions: results and immediates
-- ManifestSamples  a manifest with all ten lines, and faults of lines
-- TableSamples  tables of descriptors, and pipes
-- NodeSamples  nodes that lose their bytes or their names
-- ProcSamples  a parent and its vfork child
-- EffectSamples  what relocations ask of a loader
-- OwnerSamples  tables of own bytes, breaks, and copies of files
-- HostSamples  a host and a sink in memory
-- BytesSamples  bytes of a process, and the one memory
-- TopSamples  commands, sizes and reports
-- StringSamples the strings of an execve, in its environment alone
-- CourseSamples processes call by call, and the list at its limit
-- NoteSamples   lines of notes at the edges of their forms
pub mod Exits
mod AloneSamples
pub mod StaysSamples
mod RightSamples
pub mod VforkSamples
mod AloneEndSamples
mod WaitsSamples
mod LentSamples
pub mod TreeSamples
mod CountSamples
pub mod OrderSamples
pub mod SoundSamples
pub mod OrderedSamples
mod CopySamples
mod RegularSamples
mod ImageSamples
pub mod CallSamples
mod NameSamples
mod PieceSamples
pub mod EndSamples
mod HaltedSamples
mod FamilySamples
mod LineSamples
pub mod PartsSamples
mod WatchSamples
mod WordSamples
mod ManifestSamples
mod TableSamples
mod NodeSamples
mod ProcSamples
mod EffectSamples
mod OwnerSamples
mod HostSamples
mod BytesSamples
mod TopSamples
mod StringSamples
mod CourseSamples
mod NoteSamples
