pub mod WordLemmas
pub mod CourseLemmas
pub mod ApartLemmas
pub mod SheetLemmas
pub mod BoundLemmas
pub mod LawLemmas
pub mod RevenueLemmas
pub mod TripsLemmas
