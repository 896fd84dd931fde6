pub mod Effects
pub mod Bundles
pub mod Acceptor
pub mod Leader
pub mod Branches
pub mod Manager
pub mod Nodes
pub mod Runs
