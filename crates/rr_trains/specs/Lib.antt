pub mod Places
pub mod Phases
pub mod PhaseLaws
pub mod Sales
pub mod SaleLaws
pub mod Effects
pub mod WorkedTrains
pub mod Depot
