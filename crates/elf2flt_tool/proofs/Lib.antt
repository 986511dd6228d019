-- Members, Laid, Bare, Putting, Raised, Sound, Held, Stills, Recorded, Apart, Listed, Ascending, Spelled, ImageLaw, Loads: the laws over definitions.
-- Twins, Slots, Agreed: two files that say the same, or agree on their relocations. Exchanged: two that agree and differ.
-- Samples, FaultSamples: the worked examples, computed; of all faults.
-- Lowest, Meeting, Unmet: the least word that meets another relocation, by what the test for overlaps keeps.
-- Shapes, Walked, Entries: what the walk over the relocations finds.
-- Painted, Numbered, Assembled: the parts of the flat file.
-- FaultOrder: when each fault comes.
-- Sorting, NotedSteps: what the walks for all faults find.
-- EntryWords, AllFaults: the words of entries by number, and that the first of all faults is that one.
pub mod Members
pub mod Laid
pub mod Bare
pub mod Putting
pub mod Raised
pub mod Sound
pub mod Held
pub mod Stills
pub mod Recorded
pub mod Apart
pub mod Listed
pub mod Ascending
pub mod Spelled
pub mod ImageLaw
pub mod Loads
pub mod Twins
pub mod Slots
pub mod Agreed
pub mod Samples
pub mod FaultSamples
pub mod Exchanged
pub mod Lowest
pub mod Meeting
pub mod Unmet
pub mod Shapes
pub mod Walked
pub mod Entries
pub mod Painted
pub mod Slid
pub mod Numbered
pub mod Assembled
pub mod FaultOrder
pub mod EntryWords
pub mod AllFaults
pub mod Sorting
pub mod NotedSteps
