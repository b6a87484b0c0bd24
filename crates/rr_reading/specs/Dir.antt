pub mod Directory
pub mod Heads
pub mod Kept
pub mod Number
pub mod Version
