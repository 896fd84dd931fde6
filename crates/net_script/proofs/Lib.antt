pub mod Arms
pub mod EventLemmas
pub mod MessageLemmas
pub mod ScriptLemmas
pub mod SpelledText
pub mod LawLemmas
pub mod TraceLemmas
pub mod WordLemmas
mod KeyLemmas
pub mod TidyText
pub mod DraftLemmas
pub mod TraceLineLemmas
pub mod EndedText
pub mod ReaderLemmas
pub mod WritingLemmas
