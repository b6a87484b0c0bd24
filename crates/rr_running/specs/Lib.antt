pub mod Running
pub mod Net
