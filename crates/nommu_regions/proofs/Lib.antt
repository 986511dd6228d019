-- Held      which pages are held after a change of one region
-- FreeRuns  the free runs, where other pages are held
-- OneChanges  what is kept where one region changes
-- Cut       what is kept where pages are cut out of a region
-- Copies    the copy that a search finds
-- Ids       ids and the pages at which their regions begin
-- Numbered  what an id leads to, before and after one region changes
pub mod Held
pub mod FreeRuns
pub mod OneChanges
pub mod Cut
pub mod Copies
pub mod Ids
pub mod Numbered
