pub mod Worlds
pub mod Schedule
pub mod Laws
pub mod Example
