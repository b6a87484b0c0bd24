pub mod FormSizes
pub mod PartSizes
pub mod GameSizes
