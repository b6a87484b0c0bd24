-- Which pages are taken: those that the present root reaches, and those that the coming one will reach.
use Rattle.std.specs.Prelude.{Bool, List}
use Rattle.rr_pages.specs.declared.free_pages.FreePages.{FreePages}
use Rattle.rr_pages.specs.ReachedPages.{marks_of}

abbrev pub present_of : FreePages → List Bool
present_of pages = marks_of pages.present

abbrev pub coming_of : FreePages → List Bool
coming_of pages = marks_of pages.coming
