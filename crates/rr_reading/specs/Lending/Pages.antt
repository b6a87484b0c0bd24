-- The used bytes of pages.
use Rattle.std.specs.Prelude.{ℕ, ◌+◌, ◌*◌, List, map, slice_index}
use Rattle.std.specs.List.{flat_map, range_with_len}
use Rattle.rr_pages.specs.declared.page.TheConstants.{PAGE_BYTES, LINK_BYTES}
use Rattle.rr_pages.specs.declared.reading.Link.{Link}

-- those of a page that a link leads over. A byte past the end of a file counts as 0
unfoldable pub bytes_in : List ℕ → Link → List ℕ
bytes_in file link = map (λ i. slice_index file (PAGE_BYTES * link.page + LINK_BYTES + i)) (range_with_len 0 link.used)

-- those of several pages, one after another
abbrev pub joined : List ℕ → List Link → List ℕ
joined file links = flat_map (bytes_in file) links
