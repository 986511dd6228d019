mod Naming
mod Entering
mod Changing
mod Walking
mod Limits
mod Places
-- Numbers    what stands at a number after a change, and how many entries lead to it
-- Counts     entries that lead to a node or have a name, after one comes or goes
-- Alike      changes that leave names, entries and parents keep the tree
-- Lookups    where a walk stands: at named nodes alone
-- RootAlone  the root alone is a tree
-- EntriesAt  a change of one folder's entries
-- Entered    a new node keeps the tree
-- Left       a name that goes, and its node, leave a tree
-- TreesKept  so each change keeps it
-- Closed     what is made is named, and not open
mod Numbers
mod Counts
pub mod Alike
pub mod Lookups
mod RootAlone
mod EntriesAt
mod Entered
mod Left
pub mod TreesKept
pub mod Closed
