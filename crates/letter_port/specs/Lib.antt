pub mod Mails
pub mod Outboxes
pub mod LetterPorts
pub mod Runs
