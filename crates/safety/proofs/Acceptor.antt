pub mod StandingSlots
pub mod Slots
pub mod Effects
