-- Errnos    no fault of a path, a descriptor, a child or a wanted mapping is ENOMEM
-- EachRow   what holds of each reply that a row can give holds of every row
-- EachCall  and so of every call
-- Lists     what holds of each item of a list, when the list changes
-- Bounded   a regular world is bounded
-- Small     in a bounded world no pid, no count, no break and no address is an errno
-- Refusals  so each reply that is one is a refusal
-- Starts    a start line finds no run exactly where it lacks one
-- Bounds    each process stays younger than its parent, and each break and each copy in memory
-- Runs      a regular world stays one
-- Numbers   each event gives one number of a node, and one of a pipe, at most, and only with a noted call
-- NumberRuns  and so along turns and runs
-- Samples   calls that are refused, computed in a world of one page
pub mod Errnos
pub mod EachRow
pub mod EachCall
pub mod Lists
pub mod Bounded
pub mod Small
pub mod Refusals
pub mod Starts
pub mod Bounds
pub mod Runs
pub mod Numbers
pub mod NumberRuns
pub mod Samples
