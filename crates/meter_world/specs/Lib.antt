-- Steps: the events of a run one by one, with the pages that each asks for.
-- Requests: what start lines and calls ask for, and what of it was granted.
-- Meter: how deep each stack came, how high each break, and how much memory the run held.
-- Laws: that the steps lead where the turns lead, and that what isn't granted lacks a run.
pub mod Steps
pub mod Requests
pub mod Meter
pub mod Laws
