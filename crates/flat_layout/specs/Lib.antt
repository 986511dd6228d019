-- Extremes: the least and the greatest of numbers below an index.
-- Numbering: V0 and the numbers of the image's bytes.
-- Layout: the sizes of text, data and bss, and the entry.
-- Fault: the first reason why a file has no layout.
-- Rows: the rows of that table of each section by itself.
pub mod Extremes
pub mod Numbering
pub mod Layout
pub mod Fault
pub mod Rows
