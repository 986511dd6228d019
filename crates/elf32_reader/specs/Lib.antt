-- What an ELF32 file says, read from its bytes e by offset (System V ABI, ELF32).
-- Numbers   u8_at e p, u16_at e p, u32_at e p: numbers by offset
-- Header    entry_of e, table_of e, count_of e
-- Sections  section e i, is_allocated s, is_stored s, has_content s, content e s, is_of_kind e i k
-- Symbols   is_symtab e t, symbol_count e t, symbol e t j, name_of e t j
-- Relas     is_kept e i, rela_count e i, rela e i j, addend_word e i j
-- Faults    elf_fault e, and each row of its table
-- Heads     row_holds r e i: one of the rows on sections, of one section
-- Names     section_name e i
-- Accepted  IsAccepted e: what is known of a file that was read
-- Tables    what follows from it, by parts
pub mod Numbers
pub mod Header
pub mod Sections
pub mod Symbols
pub mod Relas
pub mod Faults
pub mod Heads
pub mod Names
pub mod Accepted
pub mod Tables
