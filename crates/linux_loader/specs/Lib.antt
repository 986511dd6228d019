-- Numbers: words of 32 bits.
-- Loader: what Linux does with a flat file.
-- Laws: what it leaves of the files that this project reads and writes.
pub mod Numbers
pub mod Loader
pub mod Laws
