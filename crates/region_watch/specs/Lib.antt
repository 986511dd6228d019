-- What a program may touch, and what comes of its instructions.
-- Private       a map cut down by a test: a table's own bytes, those that it can't change, and what a watch lets pass
-- Strays        the first stray access among those that were made
-- Watched       the first stray access that a watch has seen
-- Instructions  what up to n instructions leave, and the accesses that they make
-- Laws          what one program's writes leave of another's bytes
pub mod Private
pub mod Strays
pub mod Watched
pub mod Instructions
pub mod Laws
