pub mod BoundedRead
pub mod CallSet
pub mod Faulted
pub mod FilesOf
pub mod Sending
