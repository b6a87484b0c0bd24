-- Where the slots of a half lie in the file, and how a record is spelled in them. Numbers are big-endian, and a byte
-- past the end of a file counts as 0.
use Rattle.std.specs.Prelude.{◌≡◌, ℕ, ◌+◌, ◌-◌, ◌*◌, ◌/◌, ◌<◌, ◌≤◌, List, ◌∷◌, ◌++◌, length, replicate, slice_index}
use Rattle.byteorder.specs.Endian.{big_from, big_bytes}
use Rattle.rr_pages.specs.declared.journal.layout.TheConstants.{SLOT_BYTES, HEADER_BYTES, LAST_SLOT, MOST_SLOTS, FIRST_SLOT_PAGE, HALF_PAGES}
use Rattle.rr_pages.specs.declared.page.TheConstants.{PAGE_BYTES, OPEN}
use Rattle.rr_pages.specs.declared.journal.layout.HalfIndex.{HalfIndex}
use Rattle.rr_pages.specs.declared.journal.layout.HalfIndex.TheVariants.{First, Second}

-- the page of a half's slot 0
abbrev pub start_page : HalfIndex → ℕ
start_page First = FIRST_SLOT_PAGE
start_page Second = FIRST_SLOT_PAGE + HALF_PAGES

-- the one that isn't this half
abbrev pub other_half : HalfIndex → HalfIndex
other_half First = Second
other_half Second = First

-- the byte at which a slot begins: its gate
abbrev pub gate_place : HalfIndex → ℕ → ℕ
gate_place half slot = PAGE_BYTES * (start_page half + slot)

-- the gate of this slot is open
abbrev pub IsOpen : List ℕ → HalfIndex → ℕ → Type 0
IsOpen file half slot = slice_index file (gate_place half slot) ≡ OPEN

-- the number and the length of the record in a slot, which stand behind its gate
unfoldable pub number_at : List ℕ → HalfIndex → ℕ → ℕ
number_at file half slot = big_from (gate_place half slot + 1) 8 file

unfoldable pub length_at : List ℕ → HalfIndex → ℕ → ℕ
length_at file half slot = big_from (gate_place half slot + 9) 4 file

-- from this place on stand these bytes
abbrev pub StandsAt : List ℕ → ℕ → List ℕ → Type 0
StandsAt file place bytes = (i : ℕ) → i < length bytes → slice_index file (place + i) ≡ slice_index bytes i

-- how many slots a record of so many bytes takes, with the bytes before them
abbrev pub slots_for : ℕ → ℕ
slots_for count = (count + HEADER_BYTES + (SLOT_BYTES - 1)) / SLOT_BYTES

-- A record of so many bytes may begin in this slot: it has a byte at least, takes no more slots than a record may, and
-- ends before the last slot.
pub record HasRoom (slot count : ℕ) : Type 0 where
  pub not_empty : 0 < count
  pub not_long : slots_for count ≤ MOST_SLOTS
  pub fits : slot + slots_for count ≤ LAST_SLOT

-- A record's spelling: its open gate, number, length and bytes, zeros up to the end of its last slot, and the closed
-- gate of the slot behind it.
unfoldable pub spelling_behind_gate : ℕ → List ℕ → List ℕ
spelling_behind_gate number bytes =
    big_bytes 8 number ++ (big_bytes 4 (length bytes) ++ (bytes ++ replicate (SLOT_BYTES * slots_for (length bytes) - (HEADER_BYTES - 1) - length bytes) 0))

abbrev pub spelling : ℕ → List ℕ → List ℕ
spelling number bytes = OPEN ∷ spelling_behind_gate number bytes
