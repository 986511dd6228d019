-- Pages   which bytes are in pages that are held
-- Behind  spaces that show memory, whose copies have their files' bytes, and what comes of an event
-- Writes  bytes that an instruction or a call writes
-- Ends    ends, children and waits
-- Laid    what is laid where no mapping held the page
-- Unmaps  munmap
-- Maps    mmap2, in a copy that is there and in a run of its own
-- Execs   execve
-- Events  an event, by its next instruction
-- Done    an event of a process that lives is made
-- Walks   turns and runs
-- Boots   the opening world
-- Refused what a refused call leaves of memory
-- Marked  no mark is left
-- NeverStrays  no run ends at a stray access
-- OwnBytes  the bytes of a space are there exactly in its own ranges
pub mod Pages
pub mod Behind
pub mod Writes
pub mod Ends
pub mod Laid
pub mod Unmaps
pub mod Maps
pub mod Execs
pub mod Events
pub mod Done
pub mod Walks
pub mod Boots
pub mod Refused
pub mod Marked
pub mod NeverStrays
pub mod OwnBytes
