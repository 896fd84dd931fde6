pub mod Nodes
pub mod Told
