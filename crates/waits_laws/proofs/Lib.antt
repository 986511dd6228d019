-- Ordered   every event, turn and run leaves a world in order
-- Shown     what a change of open files leaves of what other tables show of pipes, as a relation that chains
-- ShownBehind  each change of open files leaves that
-- RowsShow  and so does every row
-- Replies   the rows that never wait
-- RowAgain  a row that would wait would wait again where its pipe and descriptors are as before
-- Again     and so would every call, one that waits for children too
-- Calls     what holds behind each change of a call holds behind every call
-- Moves     what each kind of event leaves of the processes that wait
-- Lenders   who stands still does so for its vfork child, behind every event
-- Settled   who waits would wait again where all is found as it was
-- EventWaits  and so behind every event
-- WaitRuns  behind every turn and run
-- Boots     and in the opening world
-- Stuck     where a run is stuck each that lives waits so, or stands still
pub mod Ordered
pub mod Shown
pub mod ShownBehind
pub mod RowsShow
pub mod Replies
pub mod RowAgain
pub mod Again
pub mod Calls
pub mod Moves
pub mod Lenders
pub mod Settled
pub mod EventWaits
pub mod WaitRuns
pub mod Boots
pub mod Stuck
