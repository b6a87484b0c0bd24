pub mod Turning
pub mod Quiet
pub mod Purchases
pub mod Rounds
pub mod Dividends
pub mod Commands
