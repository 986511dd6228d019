-- Errno     the number of each error, and the reply that it is
-- Notes     what is kept of a run, as plain values; the limits of the log
-- Values    the code's notes as these values
-- Log       the log as contracts see it, and what a push does
-- Inside    what a log's fields say
-- Programs  the paths of programs, and the notes that have one
-- Lines     the line of each note
-- Numbers   the number of each system call that is served
-- Sent      the bytes that a call reads from its caller's memory
-- Strings   the path and the strings that an execve read
-- Flags     a flag among others
pub mod Errno
pub mod Notes
pub mod Values
pub mod Log
pub mod Inside
pub mod Programs
pub mod Lines
pub mod Numbers
pub mod Sent
pub mod Strings
pub mod Flags
