pub mod Example
pub mod Schedules
