-- The words of a command line as a command, and what the commands of one file ask for and end with.
--
-- Status      the number of each status
-- Texts       every text that users see, but for the report of a run
-- Sizes       the numbers in the lines of `convert` and `check`, by the ELF file and by the header of its flat file
-- Ending      what a call ends with: a status, and a text for each of the two sinks
-- Outcome     what a command requests of the host, in order, and its ending; Inputs: the files that its loads give
-- Arguments   the table of commands; Invocation: a command with its arguments
-- Load        a command that goes on with the file of a load
-- OneFile     a command that begins with the load of a file
-- Convert, Check, List, Unromfs   the commands of one file
-- Items       the loads of the files that a manifest's lines bring in
-- Manifests   what the commands of a manifest share
-- Romfs       the command `romfs`
-- Replay      the command `replay`
--
-- Observed    what a host or a sink tells at one moment, and its counts: of faults, and a sink's of shortages of memory
-- HostCourse  how far a host came with the requests; Performs: what it then tells, and the ending that this gives
-- Delivery    how far the two sinks took the texts of an ending, and the status that this gives
--
-- Answer, FileLoad, ItemLoads   the ending of a value of the code, and what loads give
pub mod Status
pub mod Texts
pub mod Sizes
pub mod Ending
pub mod Outcome
pub mod Arguments
pub mod Load
pub mod OneFile
pub mod Convert
pub mod Check
pub mod List
pub mod Unromfs
pub mod Items
pub mod Manifests
pub mod Romfs
pub mod Replay
pub mod Observed
pub mod HostCourse
pub mod Delivery
pub mod Answer
pub mod FileLoad
pub mod ItemLoads
