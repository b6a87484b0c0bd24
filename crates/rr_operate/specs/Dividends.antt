pub mod Dividends
pub mod DividendLaws
pub mod WorkedDividends
