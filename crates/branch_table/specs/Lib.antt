pub mod OneCall
pub mod TableStates
pub mod Outcomes
pub mod Parts
pub mod Admission
