-- Laying    bytes laid behind bytes that were laid
-- Pictures  patches moved on, and links
-- Frames    the start frame, piece by piece
-- Blocks    what a block holds, and where the frame stands in it
-- Images    the bytes of a loaded image, by place
-- Written   memory after loading, by address
-- Started   a program in a run of pages
-- Refused   a load that isn't refused
-- Begun     the parts of a space at its start
-- AloneSamples  a program by itself, on worked examples
pub mod Laying
pub mod Pictures
pub mod Frames
pub mod Blocks
pub mod Images
pub mod Written
pub mod Started
pub mod Begun
mod AloneSamples
pub mod Refused
