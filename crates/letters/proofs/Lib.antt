pub mod Firsts
pub mod Whole
