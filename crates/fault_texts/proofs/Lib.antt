-- Starts          the start of a name tells what is shown of it
-- Headers         which rows are of a file's header
-- InTable         the symbols of an entry's sight are of its table
-- Elements        what holds of each element of a list
-- InFile          the entry of a fault is one of the file
-- FoundIn         what the faults of a file's layout speak of lies in the file
-- EntriesIn       what the faults of entries speak of lies in the file
-- Subjected       the subjects of entries of a file, and their counts, are of that file
-- Unread          the faults of a file that can't be read
-- Tables          the indexes of tables, by section
-- Counting        subjects each once, and how often they are among others
-- Falling         counts by descending number
-- Samples         names, computed
-- ListingSamples  listings, computed
pub mod Starts
pub mod Headers
pub mod InTable
pub mod Counting
pub mod Tables
pub mod Elements
pub mod InFile
pub mod FoundIn
pub mod EntriesIn
pub mod Subjected
pub mod Unread
pub mod Falling
pub mod Samples
pub mod ListingSamples
