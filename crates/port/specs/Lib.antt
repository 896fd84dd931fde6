pub mod Addresses
pub mod Asks
pub mod Ports
pub mod Members
pub mod Calls
