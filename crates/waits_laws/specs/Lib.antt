-- Waits  what holds of those that wait, in every world of a run
-- Laws   that it holds at boot, and along every run
pub mod Waits
pub mod Laws
