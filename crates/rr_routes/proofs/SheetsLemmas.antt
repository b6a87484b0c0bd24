pub mod CertificateLemmas
pub mod EachLemmas
pub mod FormLemmas
pub mod ForestLemmas
pub mod JoinedLemmas
pub mod SameLemmas
pub mod SheetLemmas
pub mod TreeLemmas
