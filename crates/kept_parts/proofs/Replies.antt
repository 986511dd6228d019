-- A system call, and what comes of it.
--
-- QuietRows    the calls that change files give no bytes
-- Replied      small facts of a reply, behind which the parts are regular
-- Finished     what is kept after a call that has its reply, by what the code did
-- Outcomes     what comes of a call, in the world and in the parts
-- PlainMemory  what comes of a call that writes nothing, in the one memory
-- GivenMemory  what a call that gives bytes leaves of the one memory
-- Wakes        the parts once those go on that wait on a pipe which changed
-- InMemory     a call by its class, and what goes on behind it, in the one memory
pub mod QuietRows
pub mod Replied
pub mod Finished
pub mod Outcomes
pub mod PlainMemory
pub mod GivenMemory
pub mod Wakes
pub mod InMemory
