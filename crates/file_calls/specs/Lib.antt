-- Calls     a call on files as the code has it, and what the code makes of it
-- Answers   what the calls that change files or descriptors answer, each for itself
-- Outcomes  what the calls that give bytes make of files and descriptors
-- Ends      descriptors that lead to an end of a pipe
-- Listings  the code's records of entries as plain values
pub mod Calls
pub mod Answers
pub mod Outcomes
pub mod Ends
pub mod Listings
