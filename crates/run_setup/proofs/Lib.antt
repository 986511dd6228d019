-- MadePrograms: the program of one line.
-- Counted: what a new node adds to the count of nodes.
-- ImageNodes: the nodes of an image one after the other.
-- OneLine: what one line brings in, where the tree made it or refused it.
-- Opened: a list opened at one place.
-- Pairs: a loop over lines, each with its file.
-- AllLines: the lines one after the other.
-- Unchanged: lines bring in files, and change none.
-- Samples: what a few lines bring in.
pub mod MadePrograms
pub mod Counted
pub mod ImageNodes
pub mod OneLine
pub mod Opened
pub mod Pairs
pub mod AllLines
pub mod Unchanged
pub mod Samples
