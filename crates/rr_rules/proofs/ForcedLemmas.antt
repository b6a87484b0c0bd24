pub mod NeedsOfBook
pub mod SaleLemmas
pub mod Raises
pub mod WorkedRows
pub mod FirstChecks
