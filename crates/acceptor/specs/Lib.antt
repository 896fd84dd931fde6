pub mod Slots
pub mod SlotTables
pub mod Acceptors
pub mod Compaction
