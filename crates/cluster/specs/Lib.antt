pub mod Clusters
pub mod Notices
pub mod Opening
pub mod Asking
pub mod Sending
pub mod Headlines
pub mod Runs
