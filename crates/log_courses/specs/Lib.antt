pub mod Course
pub mod Courses
pub mod Awaited
pub mod Strays
pub mod Rows
