pub mod Steps
pub mod Following
pub mod Upkeep
pub mod Reached
pub mod Nodes
pub mod Taking
pub mod Leading
pub mod Opened
