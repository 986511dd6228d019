-- Segments: the own bytes of a space as segments.
-- Cores: what a core file says of a process in a world.
-- Falls: which processes of a run end by a signal, and of which one a core is.
-- Laws: that each of them has a core.
pub mod Segments
pub mod Cores
pub mod Falls
pub mod Laws
