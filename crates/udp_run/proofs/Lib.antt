pub mod Reaching
pub mod Listing
pub mod Shown
pub mod Taken
pub mod Finding
pub mod Ran
pub mod Serving
