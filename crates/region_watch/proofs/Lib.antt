-- Maps      maps cut down by a test
-- Accesses  own ranges of physical memory, and those that a watch lets pass
-- Notes     the first stray access after one more access
-- StepNotes in a run that halts a step sees a stray access exactly where it ends with it
-- Runs      instructions one after the other
-- Samples   the definitions at worked examples
pub mod Maps
pub mod Accesses
pub mod Notes
pub mod StepNotes
pub mod Runs
pub mod Samples
