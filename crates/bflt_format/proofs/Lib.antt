pub mod Samples
pub mod Overlap
pub mod Headers
pub mod BigWords
pub mod Rising
pub mod Spelled
pub mod Links
pub mod Returns
