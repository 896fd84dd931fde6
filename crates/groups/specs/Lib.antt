pub mod Runs
pub mod Nodes
pub mod Turns
pub mod Processes
