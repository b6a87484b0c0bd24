pub mod Node
pub mod Facing
pub mod Keys
pub mod Network
pub mod Stops
pub mod Walk
pub mod Indexes
