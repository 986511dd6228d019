-- Pages: what is own of one page, as an interval.
-- Copies: the bytes of own intervals.
-- Lists: lists of intervals, turned round.
-- Told: what is told of a process is what the world says of it.
pub mod Pages
pub mod Copies
pub mod Lists
pub mod Told
