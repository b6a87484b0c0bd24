pub mod Holdings
pub mod HoldingLaws
pub mod Limits
pub mod Sales
pub mod SaleLaws
