-- Files  the file of each program
-- Laws   a replay says yes to what a run records
pub mod Files
pub mod Laws
