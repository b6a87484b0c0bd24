-- What a scan reads of a slot.
use Rattle.std.specs.Prelude.{◌≡◌, ◌≢◌, ℕ, List, length, drop, map, slice_index, Vec, Result, Ok, Err}
use Rattle.std.specs.declared.alloc.Global.{Global}
use Rattle.byteorder.specs.Endian.{big_number}
use Rattle.rr_pages.specs.declared.page.TheConstants.{OPEN}
use Rattle.rr_pages.specs.declared.journal.half.Half.{Half}
use Rattle.rr_pages.specs.declared.journal.reading.RunEnd.{RunEnd}
use Rattle.rr_pages.specs.declared.journal.reading.RunEnd.TheVariants.{Closed, OtherNumber, Damaged}
use Rattle.rr_pages.specs.declared.journal.reading.Found.{Found}
use Rattle.rr_pages.specs.declared.journal.reading.Found.TheVariants.{Record, End}
use Rattle.rr_pages.specs.Journal.Layout.{HasRoom}
use Rattle.rr_pages.specs.Journal.Run.{IsRecord, Ends}

-- the bytes of each record
abbrev pub lines : List (Vec ℕ Global) → List (List ℕ)
lines records = map (λ bytes. bytes.items) records

-- What the first 13 bytes of a slot say: how many bytes its record has, or why no record of this number begins there.
abbrev pub Tells : List ℕ → ℕ → ℕ → Result ℕ RunEnd → Type 0
Tells header slot number (Ok count) =
    (slice_index header 0 ≡ OPEN) × (big_number 8 (drop 1 header) ≡ number) × (big_number 4 (drop 9 header) ≡ count) × HasRoom slot count
Tells header slot number (Err Closed) = slice_index header 0 ≢ OPEN
Tells header slot number (Err OtherNumber) = (slice_index header 0 ≡ OPEN) × (big_number 8 (drop 1 header) ≢ number)
Tells header slot number (Err Damaged) =
    (slice_index header 0 ≡ OPEN) × (big_number 8 (drop 1 header) ≡ number) × (HasRoom slot (big_number 4 (drop 9 header)) → ⊥)

-- what begins in the half's next slot
abbrev pub Begins : List ℕ → Half → ℕ → Found → Type 0
Begins file half number (Record bytes) = IsRecord file half.index half.next_slot number bytes.items
Begins file half number (End end) = Ends file half.index half.next_slot number end

-- a record that was found has room there
abbrev pub FitsThere : Half → Found → Type 0
FitsThere half (Record bytes) = HasRoom half.next_slot (length bytes.items)
FitsThere half (End end) = Unit {0}
