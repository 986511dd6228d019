-- Calls: the calls of a memory form, which of them fail, and how many there were.
-- Faults: the count of faults that a host and a sink keep.
-- Host: what a host tells, and what a load and a store do to it.
-- MemHost: the host in memory.
-- MemSink: the sink in memory.
-- Sink: what a sink tells, and what a write does to it.
-- StreamSink: the sink over a stream.
pub mod Calls
pub mod Faults
pub mod Host
pub mod MemHost
pub mod MemSink
pub mod Sink
pub mod StreamSink
