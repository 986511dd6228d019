-- Places    what lies in the file
-- Facts     what is known of an accepted file, for the crates above
-- Samples   the definitions, computed on a file of 356 bytes
pub mod Places
pub mod Facts
pub mod Samples
pub mod Starts
