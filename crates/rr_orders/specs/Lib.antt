pub mod Texts
pub mod Order
pub mod Reading
pub mod Scan
