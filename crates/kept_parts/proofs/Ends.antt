-- The end of a process.
--
-- RegularWithout  the parts without a process, and without a space, are regular
-- Steps           what each step of an end leaves
-- Outcomes        what comes of an end, in the world and in the parts
-- Memory          and in the one memory
pub mod RegularWithout
pub mod Steps
pub mod Outcomes
pub mod Memory
