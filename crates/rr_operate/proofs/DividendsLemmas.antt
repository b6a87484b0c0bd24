pub mod Seats
pub mod Flat
pub mod Balances
pub mod Tokens
pub mod Hundred
