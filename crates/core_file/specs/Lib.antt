-- Text: the bytes of a core file.
-- Given: which processes have one.
-- Code: what contracts see of the code's types.
-- Laws: that the text tells its parts.
pub mod Text
pub mod Given
pub mod Code
pub mod Laws
