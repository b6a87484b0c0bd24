pub mod Chains
pub mod Commands
pub mod Fitting
pub mod Laws
pub mod PageBuffer
pub mod Pages
