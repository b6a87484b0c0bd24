pub mod Certificates
pub mod Greatest
pub mod Net
pub mod Reach
pub mod Routes
pub mod SmallBoard
pub mod Reachability
pub mod Sheets
