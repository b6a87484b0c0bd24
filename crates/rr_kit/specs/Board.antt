pub mod Plan
pub mod Sound
pub mod Spelling
pub mod Reading
pub mod Words
pub mod Lines
