pub mod Rounds
pub mod Tokens
pub mod Following
pub mod SetLaws
pub mod WorkedSets
