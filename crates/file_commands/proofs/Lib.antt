-- HostCourses, HostSteps, Stops: a course of the host, step by step.
-- Lines, SpelledNumbers, Addresses: the ends and texts of private functions.
-- Ranges: the numbers of a command that is read.
-- OneFileSteps: a command that goes on with one file.
-- Conversions, Listed, Unmade, MadeImages, Replayed: what the commands do behind their load.
-- SizesLaw: the numbers of an ELF file in the header of its flat file.
-- LoadedItems: the loads of a manifest's lines.
-- Samples, ListSamples, ReplaySamples: the definitions on worked examples.
pub mod HostCourses
pub mod HostSteps
pub mod OneFileSteps
pub mod Stops
pub mod Lines
pub mod SpelledNumbers
pub mod Ranges
pub mod Addresses
pub mod Conversions
pub mod Listed
pub mod Unmade
pub mod MadeImages
pub mod Replayed
pub mod SizesLaw
pub mod LoadedItems
pub mod Samples
pub mod ListSamples
pub mod ReplaySamples
