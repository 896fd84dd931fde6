pub mod Greatest
pub mod Turns
pub mod Next
pub mod Majorities
pub mod Picks
