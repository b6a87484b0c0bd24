pub mod Standing
pub mod Trades
pub mod Rises
pub mod TurnLemmas
pub mod PoolLemmas
pub mod SaleVerdicts
