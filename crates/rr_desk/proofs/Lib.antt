pub mod Taking
pub mod LayoutLemmas
pub mod PositionLemmas
