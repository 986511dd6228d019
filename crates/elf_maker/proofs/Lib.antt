pub mod Laid
pub mod Texts
pub mod Sizes
pub mod Bytes
pub mod Places
pub mod Entries
pub mod Sections
pub mod Clear
pub mod Made
pub mod ByValues
mod DemoSamples
