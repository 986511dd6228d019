-- Numbers           the lowest number that is free, by a search along the list, and what is left of the input
-- Walked            walks along the descriptors of a table
-- Marks             the numbers that are marked, and the pipes that aren't
-- PipesThere        the pipe that stands at its place
-- AtNumbers         what stands at a number after a change
-- NextNumbers       and when something takes the lowest number that is free
-- TablesThere       which tables are there after a change
-- Items             what a change at one number leaves of all items, of a sum and of the length
-- Sharing           how many descriptors share an open file after a change
-- EndCounts         the ends of pipes: each is open while one open file is it
-- Uses              what an open file counts when one descriptor more or fewer shares it
-- Holds             what a node counts when one open file more or fewer holds it
-- KeptNodes         which nodes are kept then
-- Sound             all of the law of counts but what open files count
-- CountsMean        what the counts mean, and that they are exact while nothing is open
-- Counting          descriptors open, are duplicated and close, and the counts stay exact
-- TablesCounted     the same of a new table and of a copy
-- ManyClosed        of an execve, and of a table that goes
-- PositionsCounted  of positions, and of the console's input
-- TwoFree           the two lowest descriptors that are free
-- PipesCounted      pipes come, and their bytes come and go
-- MarksExact        which pipes are marked after a change
-- TreeCounted       and of the tree's own changes
pub mod Numbers
pub mod Walked
pub mod Marks
pub mod PipesThere
pub mod AtNumbers
pub mod NextNumbers
pub mod TablesThere
pub mod Items
pub mod Sharing
pub mod EndCounts
pub mod Uses
pub mod Holds
pub mod KeptNodes
pub mod Sound
pub mod CountsMean
pub mod Counting
pub mod TablesCounted
pub mod ManyClosed
pub mod PositionsCounted
pub mod TwoFree
pub mod PipesCounted
pub mod MarksExact
pub mod TreeCounted
