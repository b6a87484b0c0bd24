pub mod Needs
pub mod Sales
pub mod SaleLaws
pub mod Rules
pub mod Effects
pub mod Small
pub mod WorkedNeeds
pub mod WorkedSales
