-- Pages: the pages that the program writes by itself.
-- Program: what the program does with its arguments.
pub mod Pages
pub mod Program
