-- Searches     laws of any_below, and of tests joined by `or` and `and`
-- Painting     bytes under patches
-- Laid         bytes laid over a list: by place, as a patch, and as written one by one
-- LowestFirst  a number's bytes in a map and in a list are the same
-- ByteArrays   what one array of bytes is as a map
pub mod Searches
pub mod Painting
pub mod Laid
pub mod LowestFirst
pub mod ByteArrays
