pub mod Allowed
pub mod Holds
