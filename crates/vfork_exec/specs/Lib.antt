-- Keyed     lists whose items have numbers of their own: find, change, without
-- Families  how processes stand to each other: children, lenders, those that wait and those that have ended
-- Procs     the processes, and what each call does with them
-- OtherLaws what a call leaves of the processes that it isn't about
-- Lends     what the list ends as, where what is kept of a process was lent
pub mod Keyed
pub mod Families
pub mod Procs
pub mod OtherLaws
pub mod Lends
