-- StoredWord     where a word stands in a section's content
-- IndexSearches  laws of first_below
-- FirstNotes     laws of what was noted first
-- IndexEntries   what an index says of the first entries
-- GroupCounts    bounds of a group's counts
-- StoredSlots    the section of a slot, by the first addresses of the sections
-- Partners       an entry that a search has found
-- Fields         the bytes of a field that isn't outside
-- Congruence   numbers that are the same modulo another
-- Differences  a group's number when the image moves
-- SpotOrder    what the numbers of spots say
-- SpotLists    the last spot below a number, and which symbol it is
-- Samples      two groups, computed
pub mod StoredWord
pub mod IndexSearches
pub mod FirstNotes
pub mod IndexEntries
pub mod GroupCounts
pub mod StoredSlots
pub mod Partners
pub mod Fields
pub mod Congruence
pub mod Differences
pub mod SpotOrder
pub mod SpotLists
pub mod Samples
