pub mod Seating
pub mod Sound
pub mod Presidencies
pub mod Priority
pub mod GoodOrder
