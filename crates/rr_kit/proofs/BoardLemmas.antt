pub mod NameLemmas
pub mod LineLemmas
pub mod WordLemmas
pub mod HexLemmas
pub mod BoardLemmas
pub mod AddingLemmas
pub mod RowLemmas
