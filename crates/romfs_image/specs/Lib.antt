-- Words: big-endian words, their sum, and padding.
-- Header: what stands at a position of an image.
-- Fault: what may be wrong with a superblock and with a header.
-- Walk: the headers in the order in which they are read.
-- Nodes: what an image says, a file or a folder each.
-- Reading: the nodes of an image, or its first fault.
-- Paths: the path of a node as text.
-- Text: the one text that is written for nodes.
-- Given: which nodes can be written.
-- Code: what contracts see of the code's types.
-- Laws: that the walk ends, that what is written is read again, and what `.` and `..` name in it.
pub mod Words
pub mod Header
pub mod Fault
pub mod Walk
pub mod Nodes
pub mod Reading
pub mod Paths
pub mod Text
pub mod Given
pub mod Code
pub mod Laws
