pub mod Sounding
pub mod Telling
pub mod Stamps
pub mod Sessions
pub mod Services
pub mod Times
pub mod FewPlays
