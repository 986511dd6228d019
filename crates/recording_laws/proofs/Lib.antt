-- Lists  stays that are looked up in lists that change, and lists of items
-- After  what is recorded, behind an event in one space, and where a program begins
-- Procs  the space of each process, behind a change
-- Events  what is recorded is right behind every event
-- Runs  and at boot, behind every turn and run; and then it tells the stay
pub mod Lists
pub mod After
pub mod Procs
pub mod Events
pub mod Runs
