pub mod Carried
pub mod Growing
pub mod PuttingOff
pub mod Roots
pub mod OpeningLemmas
pub mod FormattingLemmas
