-- Mmap2 and munmap.
--
-- LiveRegions   the mappings of a live space name live regions, and a region has room for one use more
-- LiveMaps      the mappings of all live spaces, and the regions that they name
-- Choice        mmap2 finds the run that the world's row finds
-- Bytes         the bytes of a space with one mapping more
-- World         what the code maps is what the world's row maps
-- Brought       what a mapping of a file brings
-- Memory        what an mmap2 leaves of the one memory
-- LogRoom       the room that the log needs for an mmap2
-- Regular       the parts stay regular where pages are mapped
-- CopiesHold    copies still hold their file then
-- Unmapped      what munmap leaves of a space is what the world's row says
-- UsesLess      the regions where a mapping went
-- UsesCut       the regions where pages were cut out of one
-- UnmapRegular  the parts after a munmap are regular, and copies hold their file
-- Mapped        the parts after an mmap2 and after a munmap
pub mod LiveRegions
pub mod LiveMaps
pub mod Choice
pub mod Bytes
pub mod World
pub mod Brought
pub mod Memory
pub mod LogRoom
pub mod Regular
pub mod CopiesHold
pub mod Unmapped
pub mod UsesLess
pub mod UsesCut
pub mod UnmapRegular
pub mod Mapped
