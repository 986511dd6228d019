-- AfterWrites  what the slots say, after a write
pub mod AfterWrites
