pub mod Facts
pub mod Playing
pub mod Leaders
