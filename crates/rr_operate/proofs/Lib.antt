pub mod Told
pub mod RunsTold
pub mod InOrder
pub mod OneVerdict
pub mod WorkedRows
pub mod SetsLemmas
pub mod DividendsLemmas
