pub mod Having
pub mod Near
pub mod Ways
