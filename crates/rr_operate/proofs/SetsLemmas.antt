pub mod WorkedRows
pub mod PassLemmas
