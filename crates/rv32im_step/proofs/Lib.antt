pub mod AskedLaws
pub mod ByteBusLaws
pub mod FileLaws
pub mod MeaningLaws
pub mod Products
mod Samples
