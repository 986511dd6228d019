-- Parts    the parts of a run: what is kept, its programs, its mode, and whether a stray access was noted; and what ties them
-- Events   an event over the parts of a run, as a closure
-- Inside   the fields of `Parts` as these
-- Classes  the class of each number
-- Answers  what comes of a call, by the mode in which its accesses are watched
-- ByMode   what a call leaves of the parts, by the run's mode
-- CallEvents  a call of a run that goes on is an event of it
pub mod Parts
pub mod Events
pub mod Inside
pub mod Classes
pub mod Answers
pub mod ByMode
pub mod CallEvents
