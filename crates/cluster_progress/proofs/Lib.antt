pub mod Handing
pub mod Committing
