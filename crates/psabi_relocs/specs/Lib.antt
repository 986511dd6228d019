-- Search: the first index that passes.
-- Class: what a symbol's value does when the image moves.
-- Row: the rows of the table of relocation types.
-- Names: the names of these types.
-- Reloc: the entries of a kept section with their symbols.
-- Bytes: the linked bytes by address.
-- Pair: high parts and low parts.
-- Slot: the slots of the global offset table.
-- Group: groups, their sums, and which are balanced.
-- Shape: how a word has a value.
-- Field: the fields of an entry, their values, and whether they hold them.
-- Fault: the first fault of an entry.
-- Effect: what an accepted entry asks of a loader, and its bytes.
-- Sums: the sums of all widths at one place, for the index alone.
-- Firsts: what was put down first at each address, for the index alone.
-- Index: what is known of the indexes.
-- Around: which symbol stands around a place, and which one a relocation means.
-- Spots: the symbols of a table by section and value, for the index alone.
-- Judged: what the judgement of an entry stands on.
-- Difference: what a group's entries compute on their number.
-- Laws: when that number is the same at every base.
pub mod Search
pub mod Class
pub mod Row
pub mod Names
pub mod Reloc
pub mod Bytes
pub mod Pair
pub mod Slot
pub mod Group
pub mod Shape
pub mod Field
pub mod Fault
pub mod Effect
pub mod Sums
pub mod Firsts
pub mod Index
pub mod Around
pub mod Spots
pub mod Judged
pub mod Difference
pub mod Laws
