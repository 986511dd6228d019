-- Files      open files and tables of descriptors: what a descriptor shows, and which numbers are free
-- Spare      open files as contracts see them, with what memory is kept for
-- Inside     what the fields of `Files` say
-- Pipes      what a pipe shows, which pipes changed, and how their bytes and ends come and go
-- Changes    how descriptors, open files and tables come and go
-- Calls      what the calls of `Files` answer
-- Counts     how many descriptors share an open file, and how many open files hold a node
-- CountLaws  that each change keeps both counts exact
pub mod Files
pub mod Spare
pub mod Inside
pub mod Pipes
pub mod Changes
pub mod Calls
pub mod Counts
pub mod CountLaws
