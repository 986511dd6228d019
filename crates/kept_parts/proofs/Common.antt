-- What every change of the parts stands on.
--
-- FoundInWorld    the world of the parts, where one space or one process is found, changed or taken out
-- ProcessList     the list of processes, as the world has it
-- UseCounts       how many mappings name a region
-- SpacesApart     what one space may write no other one has
-- FreePages       the free pages of the world are those of the regions
-- FreeBytes       at a free address no live space has a byte
-- ShownBytes      what the live spaces show of the one memory
-- WholeMemory     the table that owns all of memory
-- RunningProcess  a process that runs in its space, and the call at which it stands
-- StaysRegular    what holds of the parts stays so where one process and its space change
-- NextWorlds      the world after one process went on, and after one is gone
-- Recorded        what is recorded behind an event, and the room beside it
-- NotedStrays     whether the note of a stray access is among notes
-- AnyRun          runs of which little is known
pub mod FoundInWorld
pub mod ProcessList
pub mod UseCounts
pub mod SpacesApart
pub mod FreePages
pub mod FreeBytes
pub mod ShownBytes
pub mod WholeMemory
pub mod RunningProcess
pub mod StaysRegular
pub mod NextWorlds
pub mod Recorded
pub mod NotedStrays
pub mod AnyRun
