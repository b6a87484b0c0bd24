pub mod CallLemmas
pub mod ChoiceLemmas
pub mod EventLemmas
pub mod FailureLemmas
pub mod ImageLemmas
pub mod MomentLemmas
pub mod ReplayLemmas
pub mod WriteLemmas
