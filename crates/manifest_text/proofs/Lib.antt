pub mod Cutting
pub mod Spelling
pub mod Drafts
pub mod SaidBounds
pub mod Bounds
pub mod ClearStarts
