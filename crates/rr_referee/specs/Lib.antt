pub mod Revenue
pub mod Sheets
pub mod Tests
pub mod Trips
