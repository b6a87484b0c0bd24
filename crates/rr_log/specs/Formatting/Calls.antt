-- The device calls that lay a new file, page by page.
use Rattle.std.specs.Prelude.{ℕ, zero, suc, ◌+◌, ◌-◌, ◌*◌, List, [], ◌∷◌, ◌++◌, length, map, drop, replicate}
use Rattle.rr_disk.specs.Calls.{Step, Write, Sync}
use Rattle.rr_pages.specs.Laying.{pages_for}
use Rattle.rr_pages.specs.Roots.{root_bytes}
use Rattle.rr_pages.specs.declared.chain.FreshPage.{FreshPage}
use Rattle.rr_pages.specs.declared.page.TheConstants.{PAGE_BYTES, FIRST_DATA, OPEN}
use Rattle.rr_pages.specs.declared.root.Root.{Root}

-- the last byte of what lies before the data pages, synced: the file is too short to be a store then
abbrev pub header_calls : List Step
header_calls = Write (PAGE_BYTES * FIRST_DATA - 1) (0 ∷ []) ∷ Sync ∷ []

-- the zeros of a page
unfoldable pub zero_page : List ℕ
zero_page = replicate PAGE_BYTES 0

-- zeros over so many pages from one on, a write for each
unfoldable pub zeros_from : ℕ → ℕ → List Step
zeros_from page zero = []
zeros_from page (suc count) = Write (PAGE_BYTES * page) zero_page ∷ zeros_from (page + 1) count

-- zeros behind the gate of the second root, and over each page of the journal
abbrev pub zero_calls : List Step
zero_calls = Write (PAGE_BYTES + 1) (drop 1 zero_page) ∷ zeros_from 2 (FIRST_DATA - 2)

-- a data page, where it goes
abbrev pub page_call : FreshPage → Step
page_call fresh = Write (PAGE_BYTES * fresh.page) fresh.bytes.items

-- the root behind its gate, synced
abbrev pub root_calls : Root → List Step
root_calls root = Write 1 (root_bytes root) ∷ Sync ∷ []

-- all of these in turn: the whole file stands then, but for the root's gate, which is shut
abbrev pub closing : Root → List FreshPage → List Step
closing root fresh = header_calls ++ (zero_calls ++ (map page_call fresh ++ root_calls root))

-- and then the gate is opened, and synced
abbrev pub laying : Root → List FreshPage → List Step
laying root fresh = closing root fresh ++ Write 0 (OPEN ∷ []) ∷ Sync ∷ []

-- how many writes these are, of so many data pages: one a page of the file, the first byte and the gate
abbrev pub laying_writes : ℕ → ℕ
laying_writes count = FIRST_DATA + count + 2

-- how many data pages have these texts, and a directory without tables, which takes one
abbrev pub data_pages : List ℕ → List ℕ → List ℕ → List ℕ → ℕ
data_pages chart roster tiles board =
    pages_for (length chart) + pages_for (length roster) + pages_for (length tiles) + pages_for (length board) + 1
