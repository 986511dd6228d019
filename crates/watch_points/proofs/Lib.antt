-- Spans    ranges and spans by their ends, and whatever hits is near
-- HitLists  hits among accesses, and those that are kept
-- Asked    the accesses of a step: at most one is of data, and what is carried out is short
-- Told     the accesses near what is watched tell the hits
-- Parts    a run in parts
-- Samples  the definitions at worked examples
pub mod Spans
pub mod HitLists
pub mod Asked
pub mod Told
pub mod Parts
pub mod Samples
