-- Free pages of physical memory, and which of their runs a request is cut from.
-- Pages     runs of pages, the pages that a list of runs has
-- Free      the maximal runs of the free pages, what a request and a return leave
-- Place     the placements First, Best and Last
-- Choosers  closures that answer a placement
-- Edits     for the private functions: how the list changes
-- Laws      laws of `free_runs` and `place`
pub mod Pages
pub mod Free
pub mod Place
pub mod Choosers
pub mod Edits
pub mod Laws
