pub mod Round
pub mod RoundLaws
pub mod Counts
pub mod Opened
pub mod Trades
pub mod Bids
pub mod Parts
pub mod Bytes
