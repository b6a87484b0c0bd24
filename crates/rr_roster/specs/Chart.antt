pub mod Cell
pub mod Chart
pub mod Reading
