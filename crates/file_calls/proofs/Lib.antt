-- The calls that change something:
-- Faults      what is refused, step by step
-- Descriptor  the rows of dup, dup3 and close
-- Named       the rows of mkdirat and unlinkat, and paths
-- Opens       the row of openat
-- Writes      the rows of write and writev
-- Held        what a pipe shows and what it holds
-- Numbers     the row of each number
-- The calls that give bytes:
-- Asked        what is asked, and what is made
-- Piped        the row of pipe2
-- Sought       llseek: each answer is that of the row
-- Transferred  read and readv: what they read into, and their pieces
-- Listed       getdents64: records, and how many of them fit
-- Numbered     the row of each number
-- The calls that wait:
-- Replied    rows that don't wait
-- PipeWaits  reads and writes that wait on a pipe
pub mod Faults
pub mod Descriptor
pub mod Named
pub mod Opens
pub mod Writes
pub mod Numbers
pub mod Asked
pub mod Piped
pub mod Sought
pub mod Transferred
pub mod Listed
pub mod Numbered
pub mod Held
pub mod Replied
pub mod PipeWaits
