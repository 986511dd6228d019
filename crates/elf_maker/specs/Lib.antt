-- Given     what is given, and what has to hold of it
-- Makes     Makes parts symbols relas entry e: the file e says just what was given, field by field
-- Values    what is given by its values; Says: the same by values, and file_bytes: the bytes of the file
-- Demo      the programs of the demo
-- Fits      for the private functions: the numbers of what is given fit their fields
-- Spelling  for the private functions: how the bytes of a file are laid
pub mod Given
pub mod Makes
pub mod Values
pub mod Demo
pub mod Fits
pub mod Spelling
