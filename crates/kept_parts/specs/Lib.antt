-- Kept     what is kept of all programs
-- Noted    which stray access was noted first
-- Regular  what holds of it at every moment: the parts of 'stands' that speak of regions, use counts, own bytes and runners
-- Copies   a live copy holds its file: the part 'copies hold their file' of 'stands'
-- Stands   the world that it stands for: the parts 'same state' and 'same bytes'
-- Recorded  what is recorded of one space behind an event, and the room beside it
-- Serves   what a system call, a signal and a stray access leave
-- Starts   what the start of a program leaves
-- Inside   the fields of `KeptParts` as what is kept
-- Awake    the parts once those go on that wait on a pipe which changed
-- Gone     the parts without a process, and without a space
-- Flats    the programs that can be run are flat files, and what is so in every run that has them
-- Families  what a process is told of its children, and which program a path leads to
-- Calls    a system call by its parts, and what is kept after it
-- MapsIn   what mmap2 and munmap leave of the spaces
-- Brings   the bytes of a mapping that are recorded
-- Leaves   what a call that maps pages, and one that gives bytes, leaves of what is kept
-- Reach    what a system call may read and write: its process's own bytes, or all of memory
-- InMemory  the one memory that the parts stand for, and what a call and a signal leave of it
-- FreeRuns  the free runs that the regions leave
-- Refusals  why a program doesn't start, by the loader's reason
pub mod Kept
pub mod Noted
pub mod Regular
pub mod Copies
pub mod Stands
pub mod Serves
pub mod Starts
pub mod Inside
pub mod Gone
pub mod Awake
pub mod Flats
pub mod Families
pub mod Recorded
pub mod Calls
pub mod Refusals
pub mod MapsIn
pub mod Brings
pub mod Leaves
pub mod Reach
pub mod InMemory
pub mod FreeRuns
