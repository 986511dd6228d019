-- Paths: the paths of an image's nodes.
-- Nodes: the nodes of a tree, as an image has them.
-- Names: which trees have names that an image can have.
-- Code: what contracts see of the code's types.
-- Laws: the walk lists a whole tree.
pub mod Paths
pub mod Nodes
pub mod Names
pub mod Code
pub mod Laws
