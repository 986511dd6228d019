-- Places   the placement by its rule and by its computation
-- Searches the loops that look for a place
-- Spacing  runs in order, and the pages that they have
-- Maximal  the maximal runs of pages that pass a test
-- Changes  a run that gets shorter or goes, and one that comes
pub mod Places
pub mod Searches
pub mod Spacing
pub mod Maximal
pub mod Changes
