pub mod Signing
pub mod Carriers
pub mod SignedPorts
