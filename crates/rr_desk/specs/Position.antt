pub mod Position
pub mod Parts
