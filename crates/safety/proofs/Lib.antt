-- Facts; the argument on what stands, without the machine; what each role of the machine hands over; then whole worlds.
pub mod Greatest
pub mod Facts
pub mod Argument
pub mod Acceptor
pub mod Leader
pub mod Manager
pub mod World
pub mod WellFormed
