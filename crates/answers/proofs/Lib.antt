pub mod Sent
pub mod Told
pub mod Decided
pub mod Runs
