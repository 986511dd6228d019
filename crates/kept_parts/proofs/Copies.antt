-- Live copies hold their file, whatever happens.
--
-- SameBytes      in a memory that has the same bytes there
-- BehindChanges  after all but the mapping calls
-- BehindCalls    after a call that is noted, and after an end
-- BehindStrays   behind a noted stray access
pub mod SameBytes
pub mod BehindChanges
pub mod BehindCalls
pub mod BehindStrays
