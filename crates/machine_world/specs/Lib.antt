-- World    all processes with their private spaces, and what is kept of a run
-- Families how processes stand to each other: who may run, who leaves a space, one runner a space
-- Free     the free pages of a world
-- Found    the program to which a path leads, and the pages that its block gets
-- Asks     a system call as it is made, and what it is answered
-- Descriptors  the calls that look at descriptors and no path
-- Transfers    the calls that move bytes
-- PathCalls    the calls that take a path
-- MapCalls     the calls that map and unmap pages
-- FamilyCalls  what waitid, clone and execve are asked
-- Rows     the answer to each system call
-- Recordings  what a run records of one space, and the room in the log
-- Event    one instruction or one system call of one process
-- Turns    a list of quanta
-- Boot     the opening world
-- Programs the programs that load notes name
-- Courses  how far a turn or a run came
-- Longer   a run by a longer list of quanta
-- Laws     instructions are events, and what a refused call changes
-- Others   what an event leaves of all other processes, spaces and tables of descriptors
-- Placements  which pages a block and a mapping of its own get
-- Ages     a file's bytes change only with its count of changes
-- Order    the nodes are a tree of names, and counts are exact, after every event; and what is open is counted, whatever the tree
pub mod World
pub mod Families
pub mod Free
pub mod Found
pub mod Asks
pub mod Descriptors
pub mod Transfers
pub mod PathCalls
pub mod MapCalls
pub mod FamilyCalls
pub mod Rows
pub mod Recordings
pub mod Event
pub mod Turns
pub mod Boot
pub mod Programs
pub mod Courses
pub mod Longer
pub mod Laws
pub mod Others
pub mod Placements
pub mod Ages
pub mod Order
