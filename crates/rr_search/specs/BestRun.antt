pub mod Worded
pub mod Lengths
