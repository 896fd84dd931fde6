mod Escaped
pub mod Firsts
pub mod Joins
pub mod Lines
pub mod Loops
pub mod Made
pub mod Ordered
pub mod Passed
pub mod Plain
pub mod Several
pub mod TrueStrokes
