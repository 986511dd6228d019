-- A child, and what its parent is told.
--
-- Child  the parts after a process had a child, and what comes of a clone
-- Told   what a process is told of its children, in the world and in the parts
pub mod Child
pub mod Told
