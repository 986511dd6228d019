-- Regular   what holds of the one memory of a run between its events
-- Refusals  so each reply that is an errno is a refusal
-- Enomem    and ENOMEM is for want of a run alone
pub mod Regular
pub mod Refusals
pub mod Enomem
