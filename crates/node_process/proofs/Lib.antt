pub mod AskLemmas
pub mod AwaitLemmas
pub mod DueLemmas
pub mod GatherLemmas
pub mod HandLemmas
pub mod NoteLemmas
pub mod SayLemmas
pub mod WorkLemmas
