-- NewNotes       which notes an event adds, and that calls other than exits add none of an end
-- Ends           a process that ends in an event ends as its program does there alone
-- EndBoots       no end is noted at boot
-- EndRuns        and each that is noted along turns and runs is told in a stay
-- ConsoleRows    what a row leaves of the console
-- ConsoleEvents  behind an event the console has what its calls write to it
-- ConsoleRuns    and so along turns and runs
-- ConsoleMemory  and so over one memory
-- ConsoleSamples what calls print, computed on a worked example
pub mod NewNotes
pub mod Ends
pub mod EndBoots
pub mod EndRuns
pub mod ConsoleRows
pub mod ConsoleEvents
pub mod ConsoleRuns
pub mod ConsoleMemory
mod ConsoleSamples
