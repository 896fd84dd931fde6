pub mod Greatest
pub mod Ballots
pub mod Slots
pub mod Choice
pub mod Majority
