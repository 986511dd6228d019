-- Numbers     the value of digits, one after the other
-- Many        what is read one behind the other
-- Cuts        a text cut at a byte, and behind a front
-- Found       what the code found is what reading finds
-- Hexes       bytes of two lower case digits each, spelled and read
-- Strings     bytes up to a byte, and strings behind a front, spelled and read
-- Spelled     numbers before a byte, spelled and read
-- Ranges      ranges that were written, spelled and read
-- Fronts      the numbers at the front of a line, spelled and read
-- CallLines   calls' lines, spelled and read
-- Whole       the whole text, spelled and read
-- Faulty      the line that reading stops at is the fault
-- OneFault    a text has one fault; a call's line is the report's
-- Samples     worked examples, computed
pub mod Numbers
pub mod Many
pub mod Cuts
pub mod Found
pub mod Hexes
pub mod Strings
pub mod Spelled
pub mod Ranges
pub mod Fronts
pub mod CallLines
pub mod Whole
pub mod Faulty
pub mod OneFault
mod Samples
