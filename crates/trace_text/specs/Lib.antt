-- Calls   the system calls that are served: their numbers and names
-- Forms   how the arguments of each call are shown
-- Errors  the names of errors, and which replies are errors
-- Lines   the line of a call
-- Counts  the count of each call, and its line
-- Texts   what a trace says of the notes of a run
-- Laws    what a line tells of its call
pub mod Calls
pub mod Forms
pub mod Errors
pub mod Lines
pub mod Counts
pub mod Texts
pub mod Laws
