pub mod Calls
pub mod CommandLine
pub mod Ending
pub mod Fault
pub mod Files
pub mod Plan
pub mod Acting
pub mod Running
