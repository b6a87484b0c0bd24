mod FoundLemmas
mod Oriented
mod Reversal
mod WholeLemmas
pub mod BestRunLemmas
