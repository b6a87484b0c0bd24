pub mod Effects
pub mod Incomes
pub mod Desk
pub mod Layout
pub mod Position
