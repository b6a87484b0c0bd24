pub mod Fault
pub mod Kits
pub mod Board
