pub mod Nodes
pub mod Worlds
pub mod Runs
pub mod Kept
