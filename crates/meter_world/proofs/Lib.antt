-- Leads: the steps of a run lead where its turns lead.
-- LeadsIn: and over one memory.
-- Lacking: what isn't granted lacks a run, and no other call asks in vain.
-- Samples: the definitions, computed on examples.
pub mod Leads
pub mod LeadsIn
pub mod Lacking
mod Samples
