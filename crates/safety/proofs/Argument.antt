pub mod Preservation
pub mod Agreement
pub mod Views
pub mod Additions
pub mod Events
