-- OriginalsSame: the program of an ELF file is that of its flat file.
pub mod OriginalsSame
