-- Regions of pages with counts of their uses.
-- Regions  which regions a memory has, the pages that they hold, the free runs, one region changed, copies of files,
--          pages that are cut out
-- Ids      the ids of regions, and what they lead to
pub mod Regions
pub mod Ids
