-- Stays  the life of each space, as a stay of a program, and when what is told of it is right for a world
-- Sound  what holds of every world of a run
-- Laws   each process does what its program does alone
pub mod Stays
pub mod Sound
pub mod Laws
