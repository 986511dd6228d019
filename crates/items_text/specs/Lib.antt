-- Items     the items of a space as plain values, and what a text of them asks for
-- Values    the code's items as these values
-- Lines     the text of items, line by line
-- Faults    the first line of a text that isn't of the grammar, or isn't in its order
-- Pieces    pieces at the front of a text
-- Laws      what holds of lines and faults
-- Reading   how a text of items is read, and what reading it gives
pub mod Items
pub mod Values
pub mod Lines
pub mod Faults
pub mod Pieces
pub mod Laws
pub mod Reading
