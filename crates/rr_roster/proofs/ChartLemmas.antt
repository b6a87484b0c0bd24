pub mod CellLemmas
pub mod FrontLemmas
pub mod ParLemmas
pub mod PlaceLemmas
pub mod RefusalLemmas
pub mod RowLemmas
