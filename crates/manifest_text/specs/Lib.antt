-- Pieces    texts in pieces: lines, words
-- Numbers   numbers, addresses and quanta as they are written
-- Paths     paths of programs
-- Values    the values of a manifest, and the code's as these
-- Lines     what a line says by itself, or its first fault
-- Manifest  what a text says as a manifest, or its first fault
-- Reading   what the code's reading says in these words
-- Laws      what holds of every manifest that is read
pub mod Pieces
pub mod Numbers
pub mod Paths
pub mod Values
pub mod Lines
pub mod Manifest
pub mod Reading
pub mod Laws
