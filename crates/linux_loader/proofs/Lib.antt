-- Reading  the header, and what is read of the file
-- Linking  the memory after each record
-- Returns  the laws
-- Samples  the definition, computed
pub mod Reading
pub mod Linking
pub mod Returns
pub mod Samples
