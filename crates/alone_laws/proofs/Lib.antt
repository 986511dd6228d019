-- Lists        one item that is changed, by its place; and items that belong to places
-- Runners      the processes of a space, after one process changes or goes
-- RowSpaces    what a row leaves of the space
-- Apart        mappings that share pages of copies alone, in lists that change
-- AllMaps      the mappings of all live spaces, when one space changes or goes
-- Bytes        the bytes that a write leaves; no write changes a copy's
-- Files        a copy has its file's bytes as long as the file isn't changed
-- Moved        a sound world in which one process and its space change
-- SpacesLeft   the spaces that are left where a process leaves its own
-- SoundEnds    a sound world that a process has left
-- Spaces       a space of a sound world, and how its bytes change
-- Unmaps       a space of a sound world behind munmap
-- Wanted       what an mmap2 asks for
-- MoreMaps     a space of a sound world with a mapping more
-- FreePages    a run that is chosen is apart from all mappings
-- Maps         a space of a sound world behind mmap2
-- SoundBegins  the opening world is sound
-- SoundForks   a sound world in which a process has a child
-- SoundExecs   a sound world in which a process has gone on to another program
-- SoundRuns    each event, turn and run keeps a world sound
-- Frame        what is told stays right where one space changes
-- Named        the program to which a path leads is the one of its number
-- EventStays   instructions, answered calls and waits keep what is told right
-- Ends         and so do ends
-- PlainCalls   calls that are refused, and those that leave the mappings
-- Forks        and so does a clone
-- Execs        and an execve
-- Waits        and a waitid
-- TurnStays    and so turns and runs
-- BootStays    the first stays are right
-- Unmapping    munmap leaves alone what it leaves in the world
-- LaidBytes    bytes that are laid from an address on
-- SharedPages  which mappings of a world share pages
-- Grants       where mmap2 puts a mapping, its bytes may lie
-- RowStays     alone, every call does in its space what it does in the world
-- StaysKept    what is told is right behind every event
-- StaysRuns  and every turn and run
-- SoloRuns     a run alone goes on behind its events, with more items
pub mod Lists
pub mod Runners
pub mod RowSpaces
pub mod Apart
pub mod AllMaps
pub mod Bytes
pub mod Files
pub mod Moved
pub mod SpacesLeft
pub mod SoundEnds
pub mod Spaces
pub mod Unmaps
pub mod Wanted
pub mod MoreMaps
pub mod FreePages
pub mod Maps
pub mod SoundBegins
pub mod SoundForks
pub mod SoundExecs
pub mod SoundRuns
pub mod Frame
pub mod Named
pub mod EventStays
pub mod Ends
pub mod PlainCalls
pub mod Forks
pub mod Execs
pub mod Waits
pub mod TurnStays
pub mod BootStays
pub mod Unmapping
pub mod LaidBytes
pub mod SharedPages
pub mod Grants
pub mod RowStays
pub mod StaysKept
pub mod StaysRuns
pub mod SoloRuns
