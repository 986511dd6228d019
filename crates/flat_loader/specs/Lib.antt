-- Original  what a loader knows of a program, and the size of its block
-- Frame     the start frame: arguments and environment on the stack
-- Begin     the space and the registers after loading
-- Placed    what loading writes, where it stands in memory
-- Loads     a program loaded into a run of pages, or why not
-- Laws      the image, zeros and the frame, in this order
-- Alone     a program run by itself under given replies
pub mod Original
pub mod Frame
pub mod Begin
pub mod Placed
pub mod Loads
pub mod Laws
pub mod Alone
