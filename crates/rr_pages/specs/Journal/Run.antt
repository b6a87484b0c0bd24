-- The records of a half.
use Rattle.std.specs.Prelude.{◌≡◌, ◌≢◌, ℕ, suc, ◌+◌, ◌<◌, List, [], ◌∷◌, length}
use Rattle.rr_pages.specs.declared.journal.layout.TheConstants.{HEADER_BYTES, LAST_SLOT}
use Rattle.rr_pages.specs.declared.journal.layout.HalfIndex.{HalfIndex}
use Rattle.rr_pages.specs.declared.journal.reading.RunEnd.{RunEnd}
use Rattle.rr_pages.specs.declared.journal.reading.RunEnd.TheVariants.{Closed, OtherNumber, Damaged}
use Rattle.rr_pages.specs.Journal.Layout.{gate_place, IsOpen, number_at, length_at, StandsAt, slots_for, HasRoom}

-- in this slot begins the record of this number with these bytes
pub record IsRecord (file : List ℕ) (half : HalfIndex) (slot number : ℕ) (bytes : List ℕ) : Type 0 where
  pub open_gate : IsOpen file half slot
  pub numbered : number_at file half slot ≡ number
  pub count : length_at file half slot ≡ length bytes
  pub room : HasRoom slot (length bytes)
  pub standing : StandsAt file (gate_place half slot + HEADER_BYTES) bytes

-- a record of this number begins in this slot
abbrev pub HasRecord : List ℕ → HalfIndex → ℕ → ℕ → Type 0
HasRecord file half slot number = (bytes : List ℕ) × IsRecord file half slot number bytes

-- No record of the expected number begins in this slot: it is shut, as the last one always counts; or the record has
-- another number; or it has that number and is damaged, with no bytes, too many, or running into the last slot.
abbrev pub Ends : List ℕ → HalfIndex → ℕ → ℕ → RunEnd → Type 0
Ends file half slot number Closed = slot < LAST_SLOT → IsOpen file half slot → ⊥
Ends file half slot number OtherNumber = (slot < LAST_SLOT) × IsOpen file half slot × (number_at file half slot ≢ number)
Ends file half slot number Damaged =
    (slot < LAST_SLOT) × IsOpen file half slot × (number_at file half slot ≡ number) × (HasRoom slot (length_at file half slot) → ⊥)

-- From this slot on stand the records of these lines, of this number and one more each, and no others behind them.
abbrev pub Run : List ℕ → HalfIndex → ℕ → ℕ → List (List ℕ) → RunEnd → Type 0
Run file half slot number [] end = Ends file half slot number end
Run file half slot number (bytes ∷ lines) end =
    IsRecord file half slot number bytes × Run file half (slot + slots_for (length bytes)) (suc number) lines end

-- how many slots these lines take
abbrev pub slots_of : List (List ℕ) → ℕ
slots_of [] = 0
slots_of (bytes ∷ lines) = slots_for (length bytes) + slots_of lines
