pub mod Answering
pub mod Counting
pub mod Lines
pub mod Parts
pub mod Reading
pub mod Serving
pub mod Streams
