pub mod Holdings
pub mod Succession
pub mod Effects
pub mod Presidents
pub mod Sales
pub mod WorkedHeirs
pub mod Limits
