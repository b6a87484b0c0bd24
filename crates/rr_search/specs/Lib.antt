pub mod Found
pub mod Orientation
pub mod Whole
pub mod BestRun
