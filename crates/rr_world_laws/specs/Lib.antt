pub mod Worlds
pub mod Sessions
pub mod Services
pub mod Programs
pub mod FewPlays
