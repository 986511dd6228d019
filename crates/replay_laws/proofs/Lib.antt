-- Accepted     a replay says yes to the items of each stay
-- Runs         and to those that a run records
-- Files        each program of a manifest has its file
-- RecordedRun  a run of which a space is recorded, with a mapping of a file, a vfork and an execve
-- Samples      what is recorded of it, computed from the definitions, and what a replay says of it
pub mod Accepted
pub mod Runs
pub mod Files
pub mod RecordedRun
mod Samples
