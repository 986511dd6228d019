-- Samples   the definitions, computed on whole runs
-- FileSamples  the calls on files, computed on worked examples
-- MapSamples   and those that map and unmap pages
-- PipeSamples  a run that ends on a pipe, and reads and writes of pipes that are full, empty or closed
-- States    a world in which one process has other registers and other bytes
-- Raised    counts that rise up to the most
-- Awake     who goes on behind a call or a trap, and what that leaves
-- TurnLaws  turns, event by event
-- RunLaws   runs, quantum by quantum
-- LongerRuns  a run by a longer list of quanta
-- Steps     instructions of one process, one after the other
-- Loads     the programs that load notes name
-- Signals   the signals of instructions
-- EachChange  each change that a row may make outside of the space
-- ByRows    what holds after each of them holds of what every row leaves
-- ByEvents  what holds after each change of an event holds after every event, turn and run
-- Marks     between two events no pipe is marked
-- OtherTables  the tables of descriptors beside one that changes
-- Beside    what an event leaves of all other processes, spaces and tables of descriptors
-- FreeNumbers  the lowest free number isn't above the count of those that are taken
-- FewOpen   no more files are open than there are descriptors
-- Steady    what opens and closes leaves a tree, and as many tables
-- InOrder   counts are exact and the nodes a tree after every row
-- OrderKept  and so after every event, turn and run
-- OrderBegins  and in the opening world
-- Counted   what opens and closes keeps the counts of what is open exact, whatever the nodes
-- CountedKept  and so does every event, turn and run
-- CountedBoots  and in the opening world they are exact
-- Refused   a refused call brings nothing, and leaves its space
-- PlacementLaws  which pages a block and a mapping of its own get
-- NodesAge  nodes age by each change of the tree
-- Aging     and so by rows and events
-- Chains    the processes of each space, of which one at most may run
-- Runnable  the process of a turn may run, and may run still while its turn isn't over
-- FamilySamples  vfork, execve, waitid and ends, computed on worked examples
mod Samples
mod FileSamples
mod MapSamples
mod PipeSamples
pub mod States
pub mod Raised
pub mod Awake
pub mod TurnLaws
pub mod RunLaws
pub mod LongerRuns
pub mod Steps
pub mod Loads
pub mod Signals
pub mod EachChange
pub mod ByRows
pub mod ByEvents
pub mod Marks
pub mod OtherTables
pub mod Beside
pub mod FreeNumbers
pub mod FewOpen
pub mod Steady
pub mod InOrder
pub mod OrderKept
pub mod OrderBegins
pub mod Counted
pub mod CountedKept
pub mod CountedBoots
pub mod Refused
mod PlacementLaws
pub mod NodesAge
pub mod Aging
pub mod Chains
pub mod Runnable
mod FamilySamples
