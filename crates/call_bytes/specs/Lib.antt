-- Reading  what the reading of a call's bytes answers
-- StringsOf  the strings that an execve read, as the code gives them
-- Lists    strings that stand in the caller's memory, and which of them are too long
-- Puts     what a call writes into its caller's memory, range by range
pub mod Reading
pub mod StringsOf
pub mod Lists
pub mod Puts
