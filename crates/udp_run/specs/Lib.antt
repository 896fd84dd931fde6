pub mod Sites
pub mod Commands
pub mod NodeTables
pub mod Runs
