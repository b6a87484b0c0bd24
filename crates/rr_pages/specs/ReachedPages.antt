-- Which pages are reached.
use Rattle.std.specs.Prelude.{Bool, List}
use Rattle.rr_pages.specs.declared.reached_pages.ReachedPages.{ReachedPages}
use Rattle.rr_pages.specs.PageSet as sets

abbrev pub marks_of : ReachedPages → List Bool
marks_of reached = sets.marks_of reached.set
