-- What the machine's physical memory is, for the contracts of `PhysMem`.
-- Memory   its size, its addresses, the ranges that lie in it
-- Slots    words that were decoded
pub mod Memory
pub mod Slots
