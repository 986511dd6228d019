-- Common    what every change of the parts stands on
-- Copies    live copies hold their file, whatever happens
-- Starts    the start of a program
-- Replies   a system call, and what comes of it
-- Mappings  mmap2 and munmap
-- Forks     a child, and what its parent is told
-- Execs     an execve
-- Ends      the end of a process
pub mod Common
pub mod Copies
pub mod Starts
pub mod Replies
pub mod Mappings
pub mod Forks
pub mod Execs
pub mod Ends
