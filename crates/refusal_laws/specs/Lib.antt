-- Calls    a system call that a process is to make
-- Regular  what holds of every world of a run, so that no reply but a refusal is an errno
-- Bounded  what of it a stray store leaves, and suffices for that
-- NoRun    who needs a free run of pages and finds none
-- Numbers  how many numbers of nodes, tables and pipes a run gives
-- Laws     which replies are refusals, and which refusals are ENOMEM
pub mod Calls
pub mod Regular
pub mod Bounded
pub mod NoRun
pub mod Numbers
pub mod Laws
