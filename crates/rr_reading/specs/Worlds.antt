pub mod World
pub mod Spelling
pub mod Laws
