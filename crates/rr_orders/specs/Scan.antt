pub mod Words
pub mod Company
pub mod Writing
