-- Bytes: numbers that are bytes.
-- Steps: the walk over a tree, a step at a time.
-- Order: the nodes of a tree are in an order that an image can have.
-- Written: what is made at paths without a zero has names that an image can have.
-- ClearPaths: the paths of an image's nodes have no zero.
-- Sizes: how many nodes stand under each node.
pub mod Bytes
pub mod Steps
pub mod Order
pub mod Written
pub mod ClearPaths
pub mod Sizes
