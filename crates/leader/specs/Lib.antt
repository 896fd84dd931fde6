pub mod Choices
pub mod Courses
pub mod Places
pub mod Orders
pub mod Decisions
pub mod Leaders
pub mod Compaction
