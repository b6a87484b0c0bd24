pub mod Position
pub mod Phase
pub mod Judging
pub mod Costs
pub mod Tiles
pub mod Laying
pub mod Placing
pub mod JudgingLaws
