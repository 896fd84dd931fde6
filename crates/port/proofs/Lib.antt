pub mod Sending
pub mod Copying
pub mod Members
pub mod Taking
pub mod Raising
