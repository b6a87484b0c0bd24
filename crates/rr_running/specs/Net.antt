pub mod Joining
pub mod Indexing
pub mod Centres
pub mod Running
pub mod Telling
pub mod Reaching
