pub mod NamedLemmas
pub mod SpelledLemmas
pub mod UnspacedLemmas
pub mod WordsLemmas
