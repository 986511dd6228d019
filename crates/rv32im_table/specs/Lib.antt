-- Field      the fields of an instruction word
-- Immediate  the immediates of the five formats, read and replaced
-- Instr      what each instruction is called and which fields it has
-- Table      the table of instructions: a word to its instruction
pub mod Field
pub mod Immediate
pub mod Instr
pub mod Table
