pub mod Places
pub mod Posting
pub mod Transfers
pub mod Filling
pub mod Taking
pub mod Emptying
pub mod Raised
pub mod Runs
