-- Keyed     lists whose items have numbers of their own: what is found behind a change, a removal, a map and a filter
-- Places    the search for a number's place
-- Loops     a list that a loop goes through
-- Families  those that have ended
-- Holds     what holds of the list at every moment, call by call
-- Ready     who is among those that may run can run
-- Others    what a call leaves of the processes that it isn't about
-- Values    which process lives, and what is kept of it, behind each call
pub mod Keyed
pub mod Places
mod Loops
pub mod Families
mod Holds
pub mod Ready
pub mod Values
pub mod Others
