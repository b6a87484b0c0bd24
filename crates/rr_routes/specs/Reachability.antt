pub mod Reach
pub mod Places
pub mod Index
