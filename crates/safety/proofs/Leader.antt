pub mod Invariant
pub mod Heard
pub mod Memory
pub mod Effects
pub mod Allowed
