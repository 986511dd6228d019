-- Laws     how a process ends is how its program ends alone
-- Console  the console has the data of the noted writes whose descriptor was the console
-- ConsoleIn  and so over the one memory of a run that goes on
pub mod Laws
pub mod Console
pub mod ConsoleIn
