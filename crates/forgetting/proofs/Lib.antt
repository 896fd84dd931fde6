pub mod Lists
pub mod Saying
pub mod Effects
pub mod Growing
pub mod Coming
pub mod Left
pub mod Unused
