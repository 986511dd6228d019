-- Picked  the process of a turn
pub mod Picked
