pub mod Machine
pub mod Numbers
