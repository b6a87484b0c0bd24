pub mod Lengths
pub mod Short
pub mod Staying
pub mod Told
