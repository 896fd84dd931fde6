pub mod CommandLineLemmas
pub mod PrintingLemmas
