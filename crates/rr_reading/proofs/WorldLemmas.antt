pub mod Exact
pub mod ReadBack
pub mod Drafts
