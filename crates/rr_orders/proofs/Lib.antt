pub mod CutLemmas
pub mod SpelledLemmas
pub mod OrderLemmas
pub mod WrittenLemmas
pub mod ScanLemmas
