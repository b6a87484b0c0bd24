pub mod State
pub mod Judging
pub mod Playing
pub mod Runs
pub mod RuleLaws
pub mod Forced
pub mod Parts
