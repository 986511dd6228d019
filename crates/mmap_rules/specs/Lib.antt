-- Space     a private space: its mappings, its break and its bytes; the test of one range
-- Owners    the table of a space's own bytes, page by page
-- Held      what is kept of a space beside its bytes, and how it changes
-- Want      what mmap2 asks for
-- Mappings  mappings that come and go
-- MapState  what mapping and unmapping change
-- Chosen    what `map` chooses
-- Copies    copies hold their file
pub mod Space
pub mod Owners
pub mod Held
pub mod Want
pub mod Mappings
pub mod MapState
pub mod Chosen
pub mod Copies
