pub mod Order
pub mod Rows
pub mod Effects
pub mod TurnLaws
pub mod WorkedTurn
pub mod Sets
pub mod Dividends
