-- Numbers: big-endian words of four bytes.
-- Values: what a flat file says.
-- Header: where it says it.
-- Fault: which files are refused, and why.
-- Spelling: the one text that is written for values.
-- Image: the bytes of a loaded flat file.
-- Flat: what contracts see of a `Flat`.
-- Laws: reading what is written.
pub mod Numbers
pub mod Values
pub mod Header
pub mod Fault
pub mod Spelling
pub mod Image
pub mod Flat
pub mod Laws
