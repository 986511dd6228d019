-- Which data accesses are told, and what is kept of them.
-- Points   spans, the accesses that hit one, closures that answer it, and the hits that are kept
-- Watchers what is watched, and the hits of instructions that are watched
-- Near     for the private functions: accesses near what is watched, and what is left of a run
-- Laws     laws of `hits_in` and `with_hits`
pub mod Points
pub mod Watchers
pub mod Near
pub mod Laws
