pub mod Calls
pub mod InTurn
pub mod Kit
pub mod NewFile
pub mod Formatted
