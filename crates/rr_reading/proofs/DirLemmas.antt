pub mod NumberLemmas
pub mod PieceLemmas
pub mod VersionLemmas
pub mod ChainRefLemmas
pub mod SnapshotLemmas
pub mod TableLemmas
pub mod KeptLemmas
