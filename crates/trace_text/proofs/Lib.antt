-- Digits      the two digits of a byte
-- Arguments   the texts of a call's arguments, one more at a time
-- Shown       the notes that a trace shows, one more at a time
-- CountSteps  the counts of calls, and what one more call makes of them
-- Names       the names of calls and of errors tell them apart
-- ReadBack    what is read back from a trace line
-- Samples     worked examples, computed
pub mod Digits
pub mod Arguments
pub mod Shown
pub mod CountSteps
pub mod Names
pub mod ReadBack
mod Samples
