-- Names: names of an ELF file as they are written.
-- Symbols: sections and symbols by name.
-- Words: the faults by their words.
-- Lines: the line of each fault.
-- Counts: how many faults there are of each symbol and of each kind.
-- Kinds: the lines of kinds of faults.
-- InFile: what is known of the faults of a file.
-- Listing: all faults of a file as a text.
pub mod Names
pub mod Symbols
pub mod Words
pub mod Lines
pub mod Counts
pub mod Kinds
pub mod InFile
pub mod Listing
