-- What bytes are, below all formats and machines.
-- Numbers   number_at order n bytes at: the number in n bytes, in either order; byte_at; IsBytes
-- Search    any_below p n: some number below n passes p; first rows: the first row that holds
-- Patches   bytes by number as a picture, and what is laid over it; laid: bytes laid over a list
-- ByteMap   bytes by address as a map; one array of bytes as a map
-- Pieces    what stands between the bytes of one value
pub mod Numbers
pub mod Search
pub mod Patches
pub mod ByteMap
pub mod Pieces
