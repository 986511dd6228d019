-- An execve.
--
-- Ways     which way it goes, by its path and its strings
-- Regular  the parts are regular where a program stands in the place of another one
-- World    they stand for the world in which it does
-- Steps    the same by what its steps leave
-- Memory   what it leaves of the one memory
pub mod Ways
pub mod Regular
pub mod World
pub mod Steps
pub mod Memory
