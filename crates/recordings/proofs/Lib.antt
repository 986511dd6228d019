-- Raised   counts that rise up to the most
-- Weights  what was brought, by its bytes
pub mod Raised
pub mod Weights
