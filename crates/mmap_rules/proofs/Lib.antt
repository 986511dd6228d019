-- Ranges     own bytes of a range, page by page
-- Tables     a range more, or less: the loop over the pages that it meets
-- Lists      items of a list by place
-- TableOwns  the own bytes of a table are those of the mappings
-- TableMore  a mapping more in the table
-- TableLess  a mapping less in the table, or one that is cut
-- Mapped     mappings of a list that changes, and their places
-- Parts      what is left of a mapping that loses pages
-- TableLeft  the same in the table
-- Cuts       what a cut needs, and the list after it
-- Hits       what munmap hits, and what it leaves
-- NamesLess  after a munmap each mapping still has its region
-- Cutting    pages that are cut out of a mapping, in numbers
-- PartNames  the parts that a cut leaves have their regions
-- NamesCut   so has each mapping that is left
-- NamesAll   and where the list is that of all spaces
-- KeepsLess  what else a munmap leaves as it was: how many pages memory has, and what bounds the uses
-- Meets      which mappings have bytes in a page, and how many they are
-- FreshRuns  a mapping of a fresh run
-- Copies     a mapping of pages of a copy
-- Left       what a mapping more leaves of a space, the regions and memory
-- Chosen     what `map` chooses
-- Fresh      a run that is taken is free
-- Refused    ENOMEM is due where no run fits, and only there
-- Fitting    what is wanted is mapped where a copy has its pages, or a free run is long enough
-- Names      mappings and their regions after a mapping more
-- NamesMore  the same after a mapping of a copy more
-- FilePages  pages of a file, byte by byte
-- Change     what `map` changes
-- CopiesHold copies hold their file where `map` maps pages
-- Keeps      what `map` keeps, as its next call needs it
-- Released   the uses of regions behind a release
-- Samples    the definitions, computed on worked examples
pub mod Ranges
pub mod Tables
pub mod Lists
pub mod TableOwns
pub mod TableMore
pub mod TableLess
pub mod Mapped
pub mod Parts
pub mod TableLeft
pub mod Cuts
pub mod Hits
pub mod NamesLess
pub mod Cutting
pub mod PartNames
pub mod NamesCut
pub mod NamesAll
pub mod KeepsLess
pub mod Meets
pub mod FreshRuns
pub mod Copies
pub mod Left
pub mod Chosen
pub mod Fresh
pub mod Refused
mod Fitting
pub mod Names
pub mod NamesMore
pub mod FilePages
pub mod Change
pub mod CopiesHold
pub mod Keeps
pub mod Released
pub mod Samples
