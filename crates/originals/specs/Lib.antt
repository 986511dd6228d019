-- Originals  the program of an ELF file
pub mod Originals
