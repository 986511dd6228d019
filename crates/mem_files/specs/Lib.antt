-- Inodes   files and folders by number: what is read of them, and their limits
-- Paths    the names of a path, and what it leads to
-- Changes  what writing, making and removing leave
-- Trees    what the nodes always keep: they are a tree of names
-- TreeLaws  each change keeps the tree, so that a look-up gives only nodes that are there
-- Calls    what the calls of `Tree` answer
-- Seen     the code's entries as plain values
-- Stored   its contents of a node
-- Walks    its places of a walk
pub mod Inodes
pub mod Paths
pub mod Changes
pub mod Trees
pub mod TreeLaws
pub mod Calls
pub mod Seen
pub mod Stored
pub mod Walks
