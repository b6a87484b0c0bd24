pub mod Growing
pub mod Steps
pub mod Records
pub mod Writers
pub mod Planning
pub mod Working
pub mod PlanLemmas
