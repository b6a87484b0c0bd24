pub mod DepotLemmas
