-- Votes are sent, then accepted in ballot 0, then decided and followed; before that idle branches are prepared; and from the opening world
-- on branches are made idle first.
pub mod Sending
pub mod Gathering
pub mod Committing
pub mod Preparing
pub mod Requesting
pub mod Opening
