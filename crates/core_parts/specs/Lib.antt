-- Tables: the own bytes that a table of a space names, as intervals and segments.
-- Code: what contracts see of the code's types.
pub mod Tables
pub mod Code
