-- What a set of pages has.
use Rattle.std.specs.Prelude.{Bool, List}
use Rattle.rr_pages.specs.declared.page_set.PageSet.{PageSet}
use Rattle.rr_pages.specs.Marks.{marks_in}

abbrev pub marks_of : PageSet → List Bool
marks_of set = marks_in set.pages set.words.items
