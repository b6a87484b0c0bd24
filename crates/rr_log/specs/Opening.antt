pub mod Opened
pub mod Place
pub mod Carrying
pub mod Syncing
pub mod Laws
