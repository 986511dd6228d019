-- Sub      what is read of a part is read of all
-- Widened  an instruction over a part, and over all
-- Samples  whole runs, computed from the definitions
-- InMemory what spaces show that have what memory has
-- Moves    one process in its space, behind instructions
-- TurnsIn  turns and runs, event by event and quantum by quantum
-- LongerRunsIn  a run by a longer list of quanta
-- StepsIn  instructions are events
-- Shows    every space shows memory behind every event
-- ByTurnsIn  what every event keeps is kept by turns and runs
-- ByEventsIn  what holds after each change of an event holds after every event
-- Growth   what a run only adds to, and what it leaves
-- OrderIn  the nodes are a tree of names, and counts are exact
-- WideRuns several instructions, and the bytes that a call writes
pub mod Sub
pub mod Widened
pub mod WideRuns
pub mod InMemory
pub mod Moves
pub mod TurnsIn
pub mod LongerRunsIn
pub mod StepsIn
pub mod ByTurnsIn
pub mod Shows
pub mod ByEventsIn
pub mod Growth
pub mod OrderIn
pub mod Samples
