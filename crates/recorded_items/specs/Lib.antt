-- Recorded  the items of the space that is recorded
-- Left      what one call more has of what was brought, and what it leaves
-- Members   who is in a space after some notes
-- Followed  what some notes tell of a space
-- Spelled   what holds of each program that is loaded and each call that is noted, so that items have a text
-- Laws      the items are those of the stay, and have a text
pub mod Recorded
pub mod Left
pub mod Members
pub mod Followed
pub mod Spelled
pub mod Laws
