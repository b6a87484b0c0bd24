pub mod InsertLemmas
pub mod RankLemmas
pub mod BeforeLemmas
pub mod SortLemmas
pub mod FallLemmas
pub mod ArrivalLemmas
pub mod OperationsLemmas
pub mod PartLemmas
