-- Brought    what the item lines of a manifest bring in
-- Faults     the faults that are none of a line, and those of a place
-- Refusals   why lines are refused: a fault of one, or no memory
-- Programs   the program that the code makes of one line
-- Making     what the code brings in, as that of the definition
pub mod Brought
pub mod Faults
pub mod Refusals
pub mod Programs
pub mod Making
