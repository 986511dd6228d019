-- Physical  a run that goes on after its first stray access
-- Wider     what a program does in a part of memory it does in all of it
-- After     what is said of what an event leaves
-- Courses   how far a turn or a run came, and instructions are events
-- Longer    a run by a longer list of quanta
-- Growth    what a run only adds to, and what it leaves
-- Order     the nodes are a tree of names, and counts are exact, after every event
pub mod Physical
pub mod Wider
pub mod After
pub mod Courses
pub mod Longer
pub mod Growth
pub mod Order
