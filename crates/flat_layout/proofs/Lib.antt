-- Bounds   what least_below and greatest_below bound
-- Facts    a file without a layout fault: the rows that don't hold, and the sizes of its image
-- Numbers  the numbers of the bytes of its sections
-- Samples  the definitions, computed on files
pub mod Bounds
pub mod Facts
pub mod Numbers
pub mod Samples
