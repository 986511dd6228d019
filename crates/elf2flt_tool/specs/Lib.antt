-- Relocs: what the kept relocations of a file fill.
-- Image: the bytes of an ELF file, relocated at a base.
-- Word: the recorded words, where they point and what they meet.
-- Fault: the first reason why a file isn't converted.
-- Faults: every reason.
-- Converted: the flat file that a file is converted to.
-- Same: when two files say the same to the converter.
-- Laws: what is written has no fault, and loads to the bytes of the ELF file, relocated.
-- Cover, Walk, Noted, Slides: for private functions only: what the test for overlaps keeps, how far a walk over the relocations has come,
-- and which bytes of the ELF file move where to make it the linked file.
pub mod Relocs
pub mod Image
pub mod Word
pub mod Cover
pub mod Fault
pub mod Faults
pub mod Walk
pub mod Noted
pub mod Slides
pub mod Converted
pub mod Same
pub mod Laws
