pub mod Front
pub mod Standing
pub mod Places
pub mod Sent
