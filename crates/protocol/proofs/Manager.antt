pub mod Effects
pub mod Keys
pub mod Names
pub mod Apart
pub mod Prepared
pub mod Views
pub mod Played
