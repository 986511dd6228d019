-- Answers   what holds of each answer that a call may have holds of what comes of the call
-- Changes   pids and counts are as they must be behind each change
-- StaysRegular  the memory of a run stays regular
-- Noted     the notes that an event adds
-- Errnos    each reply that is an errno is a refusal
-- Enomem    ENOMEM is for want of a run
-- Samples   a call that lacks a run, computed in a memory of one page
pub mod Answers
pub mod Changes
pub mod StaysRegular
pub mod Noted
pub mod Errnos
pub mod Enomem
mod Samples
