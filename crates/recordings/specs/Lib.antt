-- Inside  the fields of a recording as its value
pub mod Inside
