-- Homes  in which space a process runs, and which calls were made in a space, as the notes tell it
-- Items  the items of the space that is recorded
-- Laws   they are those of its stay
pub mod Homes
pub mod Items
pub mod Laws
