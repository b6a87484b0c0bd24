pub mod Buffer
pub mod Law
pub mod Layout
pub mod Reading
pub mod Run
pub mod Stops
