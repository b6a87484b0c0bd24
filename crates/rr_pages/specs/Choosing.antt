-- Which root an opening takes, and when it takes none.
use Rattle.std.specs.Prelude.{◌≡◌, ℕ, ◌*◌, ◌^◌, ◌<◌, ◌≤◌, Bool, true, false, List, length, drop, slice_index, Option, None, Some, Result, Ok, Err}
use Rattle.rr_pages.specs.declared.fault.Fault.{Fault}
use Rattle.rr_pages.specs.declared.fault.Damage.TheVariants.{RootField}
use Rattle.rr_pages.specs.declared.fault.Fault.TheVariants.{FileFull, HalfFull, Damaged, NotAStore, Disk, OutOfMemory}
use Rattle.rr_pages.specs.declared.choosing.Fields.{Fields}
use Rattle.rr_pages.specs.declared.choosing.Taken.{Taken}
use Rattle.byteorder.specs.Endian.{big_number}
use Rattle.rr_pages.specs.declared.page.TheConstants.{PAGE_BYTES, LEAST_PAGES, MOST_PAGES}
use Rattle.rr_pages.specs.declared.root.Root.{Root}
use Rattle.rr_pages.specs.Roots.{half_number, Stale, IsRootOpen, IsKnownVersion, field, IsTaken}

-- The file is none of ours: it has too few pages, no open root, or an open root of a version that isn't known.
pub data IsNoStore (file : List ℕ) : Type 0 where
  Too_short : length file < PAGE_BYTES * LEAST_PAGES → IsNoStore file
  Both_shut : (IsRootOpen file false → ⊥) → (IsRootOpen file true → ⊥) → IsNoStore file
  Another_version : (side : Bool) → IsRootOpen file side → (IsKnownVersion (field file side 34 2) → ⊥) → IsNoStore file

-- the fields on one side are such as a root may have
pub record AreInBounds (file : List ℕ) (side : Bool) : Type 0 where
  pub number : field file side 1 8 < 2 ^ 63
  pub half : field file side 17 1 ≤ 1
  pub first_low : 0 < field file side 18 8
  pub first_high : field file side 18 8 < 2 ^ 63
  pub pages_low : LEAST_PAGES ≤ field file side 26 8
  pub pages_high : field file side 26 8 ≤ MOST_PAGES
  pub within : PAGE_BYTES * field file side 26 8 ≤ length file

-- a field of an open root is out of bounds, or two open roots have the same number
pub data HasBadField (file : List ℕ) : Type 0 where
  Out_of_bounds : (side : Bool) → IsRootOpen file side → (AreInBounds file side → ⊥) → HasBadField file
  Same_number : IsRootOpen file false → IsRootOpen file true → field file false 1 8 ≡ field file true 1 8 → HasBadField file

-- what choosing a root answers: that the file is none of ours is judged first
abbrev pub Chooses : List ℕ → Result Taken Fault → Type 0
Chooses file (Ok taken) = (stale : Stale) × IsTaken file taken.side taken.root stale
Chooses file (Err FileFull) = ⊥
Chooses file (Err HalfFull) = ⊥
Chooses file (Err (Damaged damage)) = (damage ≡ RootField) × (IsNoStore file → ⊥) × HasBadField file
Chooses file (Err NotAStore) = IsNoStore file
Chooses file (Err (Disk fault)) = Unit {0}
Chooses file (Err OutOfMemory) = ⊥

-- the fields as they stand
pub record AreFields (file : List ℕ) (side : Bool) (fields : Fields) : Type 0 where
  pub number : field file side 1 8 ≡ fields.number
  pub directory : field file side 9 8 ≡ fields.directory
  pub half : field file side 17 1 ≡ fields.half
  pub first : field file side 18 8 ≡ fields.first
  pub pages : field file side 26 8 ≡ fields.pages
  pub version : field file side 34 2 ≡ fields.version

-- what stands behind a gate, if it is open
abbrev pub StandsBehind : List ℕ → Bool → Option Fields → Type 0
StandsBehind file side None = IsRootOpen file side → ⊥
StandsBehind file side (Some fields) = IsRootOpen file side × AreFields file side fields

-- the same in the 36 bytes from the gate on
pub record AreFieldsIn (bytes : List ℕ) (fields : Fields) : Type 0 where
  pub number : big_number 8 (drop 1 bytes) ≡ fields.number
  pub directory : big_number 8 (drop 9 bytes) ≡ fields.directory
  pub half : slice_index bytes 17 ≡ fields.half
  pub first : big_number 8 (drop 18 bytes) ≡ fields.first
  pub pages : big_number 8 (drop 26 bytes) ≡ fields.pages
  pub version : big_number 2 (drop 34 bytes) ≡ fields.version

-- fields that a root of a file of this length may have
pub record IsInBounds (len : ℕ) (fields : Fields) : Type 0 where
  pub number : fields.number < 2 ^ 63
  pub half : fields.half ≤ 1
  pub first_low : 0 < fields.first
  pub first_high : fields.first < 2 ^ 63
  pub pages_low : LEAST_PAGES ≤ fields.pages
  pub pages_high : fields.pages ≤ MOST_PAGES
  pub within : PAGE_BYTES * fields.pages ≤ len

-- the root with these fields
pub record IsRootOf (fields : Fields) (root : Root) : Type 0 where
  pub number : root.number ≡ fields.number
  pub directory : root.directory ≡ fields.directory
  pub half : fields.half ≤ 1 → half_number root.half ≡ fields.half
  pub first : root.first ≡ fields.first
  pub pages : root.pages ≡ fields.pages
  pub version : root.version ≡ fields.version

-- a verdict on the file, and no fault from outside
abbrev pub IsJudged : {T : Type 0} → Result T Fault → Type 0
IsJudged (Ok value) = Unit {0}
IsJudged (Err FileFull) = ⊥
IsJudged (Err HalfFull) = ⊥
IsJudged (Err (Damaged damage)) = Unit {0}
IsJudged (Err NotAStore) = Unit {0}
IsJudged (Err (Disk fault)) = ⊥
IsJudged (Err OutOfMemory) = ⊥
