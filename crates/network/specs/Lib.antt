pub mod Networks
pub mod Entries
