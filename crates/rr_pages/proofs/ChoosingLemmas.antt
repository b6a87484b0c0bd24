-- Which root is taken, by the fields that were read.
use Rattle.std.proofs.Common.{◌≡◌, ◌⊎◌, inl, inr, ℕ, zero, suc, ◌+◌, ◌*◌, ◌<◌, ◌≤◌, Bool, true, false, not, List, length, slice_index, Some, None, Err, refl, sym, ◌∙◌, arith}
use Rattle.rr_disk.specs.Disk.{IsAt}
use Rattle.rr_pages.specs.declared.fault.Fault.{Fault}
use Rattle.rr_pages.specs.declared.fault.Fault.TheVariants.{FileFull, HalfFull, Damaged, NotAStore, Disk, OutOfMemory}
use Rattle.rr_pages.specs.declared.root.Root.{Root}
use Rattle.rr_pages.specs.declared.choosing.Fields.{Fields}
use Rattle.rr_pages.specs.Roots.{half_number, root_gate, IsRootOpen, IsKnownVersion, field, HasFields, IsSound, Stale, Shut, Older, IsStale, IsTaken}
use Rattle.rr_pages.specs.Choosing.{IsNoStore, Too_short, Both_shut, Another_version, AreInBounds, HasBadField, Out_of_bounds, Same_number, AreFields, StandsBehind, AreFieldsIn, IsInBounds, IsRootOf, Chooses, IsJudged}
use Rattle.rr_pages.specs.Faults.{CountsFault, OnlyDevice}
use Rattle.rr_pages.specs.Pages.{number_in}
use Rattle.rr_pages.proofs.Bytes.{at_index, number_read}
use Rattle.rr_pages.proofs.Versions.{known_same}
use Rattle.rr_pages.specs.declared.journal.layout.HalfIndex.TheVariants.{First, Second}
use Rattle.rr_pages.specs.declared.journal.layout.HalfIndex.{HalfIndex}

half_same : (a b : HalfIndex) → half_number a ≡ half_number b → a ≡ b
half_same First First e = refl
half_same First Second e = absurd (omega (arith, e))
half_same Second First e = absurd (omega (arith, e))
half_same Second Second e = refl

-- a side has one root
pub same_root : (file : List ℕ) (side : Bool) (a b : Root) → HasFields file side a → HasFields file side b → a ≡ b
same_root file side a b of_a of_b =
    let number : a.number ≡ b.number = sym of_a.number ∙ of_b.number in
    let directory : a.directory ≡ b.directory = sym of_a.directory ∙ of_b.directory in
    let half : a.half ≡ b.half = half_same a.half b.half (sym of_a.half ∙ of_b.half) in
    let first : a.first ≡ b.first = sym of_a.first ∙ of_b.first in
    let pages : a.pages ≡ b.pages = sym of_a.pages ∙ of_b.pages in
    let version : a.version ≡ b.version = sym of_a.version ∙ of_b.version in
    λ i. record { number = number i; directory = directory i; half = half i; first = first i; pages = pages i; version = version i }

-- an open root that isn't taken has a smaller number
stale_lower : (file : List ℕ) (side : Bool) (number : ℕ) (stale : Stale) (root : Root) → IsStale file side number stale → IsRootOpen file side → HasFields file side root → root.number < number
stale_lower file side number Shut root is open_gate fields = absurd (is open_gate)
stale_lower file side number (Older older) root is open_gate fields = omega (arith, is.3, is.1.number, fields.number)

sides_apart : (file : List ℕ) (a b : Root) (of_a of_b : Stale) → IsTaken file false a of_a → IsTaken file true b of_b → ⊥
sides_apart file a b of_a of_b first second =
    let lower : b.number < a.number = stale_lower file true a.number of_a b first.other second.open_gate second.fields in
    let higher : a.number < b.number = stale_lower file false b.number of_b a second.other first.open_gate first.fields in
    absurd (omega arith)

-- a file has one root that is taken
pub one_taken : (file : List ℕ) (side other : Bool) (a b : Root) (of_a of_b : Stale) → IsTaken file side a of_a → IsTaken file other b of_b → (side ≡ other) × (a ≡ b)
one_taken file false false a b of_a of_b first second = (refl, same_root file false a b first.fields second.fields)
one_taken file false true a b of_a of_b first second = absurd (sides_apart file a b of_a of_b first second)
one_taken file true false a b of_a of_b first second = absurd (sides_apart file b a of_b of_a second first)
one_taken file true true a b of_a of_b first second = (refl, same_root file true a b first.fields second.fields)

-- what holds of one side and of the other holds of each
by_side : (P : Bool → Type 0) (side : Bool) → P side → P (not side) → (s : Bool) → P s
by_side P false here there false = here
by_side P false here there true = there
by_side P true here there false = there
by_side P true here there true = here

-- every open root is sound where one is taken
open_sound : (file : List ℕ) (side : Bool) (number : ℕ) (stale : Stale) → IsStale file side number stale → IsRootOpen file side → (root : Root) × (HasFields file side root × IsSound file root)
open_sound file side number Shut is open_gate = absurd (is open_gate)
open_sound file side number (Older older) is open_gate = (older, (is.1, is.2))

each_sound : (file : List ℕ) (side : Bool) (root : Root) (stale : Stale) → IsTaken file side root stale → (s : Bool) → IsRootOpen file s → (r : Root) × (HasFields file s r × IsSound file r)
each_sound file side root stale taken =
    by_side (λ (s : Bool). IsRootOpen file s → (r : Root) × (HasFields file s r × IsSound file r)) side
    (λ open_gate. (root, (taken.fields, taken.sound)))
    (λ open_gate. open_sound file (not side) root.number stale taken.other open_gate)

half_low : (half : HalfIndex) → half_number half ≤ 1
half_low First = omega arith
half_low Second = omega arith

sound_bounds : (file : List ℕ) (s : Bool) (r : Root) → HasFields file s r → IsSound file r → AreInBounds file s
sound_bounds file s r fields sound =
    record {
      number = omega (arith, fields.number, sound.number);
      half = omega (arith, fields.half, half_low r.half);
      first_low = omega (arith, fields.first, sound.first_low);
      first_high = omega (arith, fields.first, sound.first_high);
      pages_low = omega (arith, fields.pages, sound.pages_low);
      pages_high = omega (arith, fields.pages, sound.pages_high);
      within = omega (arith, fields.pages, sound.within);
    }

-- where a root is taken, the file is one of ours, and no field is bad
pub taken_store : (file : List ℕ) (side : Bool) (root : Root) (stale : Stale) → IsTaken file side root stale → IsNoStore file → ⊥
taken_store file side root stale taken (Too_short short) = absurd (omega (arith, taken.sound.within, taken.sound.pages_low, short))
taken_store file false root stale taken (Both_shut first second) = first taken.open_gate
taken_store file true root stale taken (Both_shut first second) = second taken.open_gate
taken_store file side root stale taken (Another_version s open_gate other) =
    let is = each_sound file side root stale taken s open_gate in
    other (known_same is.0.version (field file s 34 2) (sym is.1.0.version) is.1.1.version)

lower_apart : (a b : ℕ) → a < b → a ≡ b → ⊥
lower_apart a b lower same = absurd (omega arith)

pub taken_good : (file : List ℕ) (side : Bool) (root : Root) (stale : Stale) → IsTaken file side root stale → HasBadField file → ⊥
taken_good file side root stale taken (Out_of_bounds s open_gate out) =
    let is = each_sound file side root stale taken s open_gate in
    out (sound_bounds file s is.0 is.1.0 is.1.1)
taken_good file false root stale taken (Same_number first second same) =
    let is = open_sound file true root.number stale taken.other second in
    lower_apart is.0.number root.number (stale_lower file true root.number stale is.0 taken.other second is.1.0) (sym is.1.0.number ∙ (sym same ∙ taken.fields.number))
taken_good file true root stale taken (Same_number first second same) =
    let is = open_sound file false root.number stale taken.other first in
    lower_apart is.0.number root.number (stale_lower file false root.number stale is.0 taken.other first is.1.0) (sym is.1.0.number ∙ (same ∙ taken.fields.number))

-- the fields that were read, by the file
module _ (file : List ℕ) (len : ℕ) (same : length file ≡ len) (side : Bool) (fields : Fields) (are : AreFields file side fields) where
  pub bounds_read : AreInBounds file side → IsInBounds len fields
  bounds_read within =
      record {
        number = omega (arith, are.number, within.number);
        half = omega (arith, are.half, within.half);
        first_low = omega (arith, are.first, within.first_low);
        first_high = omega (arith, are.first, within.first_high);
        pages_low = omega (arith, are.pages, within.pages_low);
        pages_high = omega (arith, are.pages, within.pages_high);
        within = omega (arith, are.pages, within.within, same);
      }

  pub root_fields : (root : Root) → IsRootOf fields root → IsInBounds len fields → HasFields file side root
  root_fields root is within =
      record {
        number = are.number ∙ sym is.number;
        directory = are.directory ∙ sym is.directory;
        half = are.half ∙ sym (is.half within.half);
        first = are.first ∙ sym is.first;
        pages = are.pages ∙ sym is.pages;
        version = are.version ∙ sym is.version;
      }

  pub root_sound : (root : Root) → IsRootOf fields root → IsInBounds len fields → IsKnownVersion fields.version → IsSound file root
  root_sound root is within version =
      record {
        number = omega (arith, is.number, within.number);
        first_low = omega (arith, is.first, within.first_low);
        first_high = omega (arith, is.first, within.first_high);
        pages_low = omega (arith, is.pages, within.pages_low);
        pages_high = omega (arith, is.pages, within.pages_high);
        within = omega (arith, is.pages, within.within, same);
        version = known_same fields.version root.version (sym is.version) version;
      }

-- the root with fields in bounds
abbrev pub half_of : ℕ → HalfIndex
half_of zero = First
half_of (suc n) = Second

half_of_low : (n : ℕ) → n ≤ 1 → half_number (half_of n) ≡ n
half_of_low zero low = refl
half_of_low (suc n) low = omega arith

abbrev pub root_with : Fields → Root
root_with fields = record { number = fields.number; directory = fields.directory; half = half_of fields.half; first = fields.first; pages = fields.pages; version = fields.version }

pub root_with_is : (fields : Fields) → IsRootOf fields (root_with fields)
root_with_is fields = record { number = refl; directory = refl; half = λ low. half_of_low fields.half low; first = refl; pages = refl; version = refl }

-- a file that is long enough, with an open root, and none of a version that isn't known, is one of ours
pub is_store : (file : List ℕ) (side : Bool) → 4096 * 515 ≤ length file → IsRootOpen file side → ((s : Bool) → IsRootOpen file s → IsKnownVersion (field file s 34 2)) → IsNoStore file → ⊥
is_store file side long open_gate versions (Too_short short) = absurd (omega arith)
is_store file false long open_gate versions (Both_shut first second) = first open_gate
is_store file true long open_gate versions (Both_shut first second) = second open_gate
is_store file side long open_gate versions (Another_version s is other) = other (versions s is)

-- the open root alone
module _ (file : List ℕ) (len : ℕ) (same : length file ≡ len) (long : 4096 * 515 ≤ len) (side : Bool) (fields : Fields) (stands : StandsBehind file side (Some fields)) (shut : StandsBehind file (not side) None) where
  pub alone_version : (IsKnownVersion fields.version → ⊥) → IsNoStore file
  alone_version other = Another_version side stands.0 (λ known. other (known_same (field file side 34 2) fields.version stands.1.version known))

  pub alone_bad : IsKnownVersion fields.version → (IsInBounds len fields → ⊥) → (IsNoStore file → ⊥) × HasBadField file
  alone_bad version out = (
    is_store file side (omega arith) stands.0 (by_side (λ (s : Bool). IsRootOpen file s → IsKnownVersion (field file s 34 2)) side (λ open_gate. known_same fields.version (field file side 34 2) (sym stands.1.version) version) (λ open_gate. absurd (shut open_gate))),
    Out_of_bounds side stands.0 (λ within. out (bounds_read file len same side fields stands.1 within)),
  )

  pub alone_taken : (root : Root) → IsRootOf fields root → IsKnownVersion fields.version → IsInBounds len fields → (stale : Stale) × IsTaken file side root stale
  alone_taken root is version within = (
    Shut,
    record { open_gate = stands.0; fields = root_fields file len same side fields stands.1 root is within; sound = root_sound file len same side fields stands.1 root is within version; other = shut },
  )

-- both open
module _ (file : List ℕ) (len : ℕ) (same : length file ≡ len) (long : 4096 * 515 ≤ len) (first second : Fields) (stands : StandsBehind file false (Some first)) (stands_too : StandsBehind file true (Some second)) where
  pub both_version : (IsKnownVersion first.version → ⊥) ⊎ (IsKnownVersion second.version → ⊥) → IsNoStore file
  both_version (inl other) = Another_version false stands.0 (λ known. other (known_same (field file false 34 2) first.version stands.1.version known))
  both_version (inr other) = Another_version true stands_too.0 (λ known. other (known_same (field file true 34 2) second.version stands_too.1.version known))

  both_store : IsKnownVersion first.version → IsKnownVersion second.version → IsNoStore file → ⊥
  both_store version version_too =
      is_store file false (omega arith) stands.0 (by_side (λ (s : Bool). IsRootOpen file s → IsKnownVersion (field file s 34 2)) false
      (λ open_gate. known_same first.version (field file false 34 2) (sym stands.1.version) version)
      (λ open_gate. known_same second.version (field file true 34 2) (sym stands_too.1.version) version_too))

  pub both_bad : IsKnownVersion first.version → IsKnownVersion second.version → (IsInBounds len first → ⊥) ⊎ (IsInBounds len second → ⊥) → (IsNoStore file → ⊥) × HasBadField file
  both_bad version version_too (inl out) = (both_store version version_too, Out_of_bounds false stands.0 (λ within. out (bounds_read file len same false first stands.1 within)))
  both_bad version version_too (inr out) = (both_store version version_too, Out_of_bounds true stands_too.0 (λ within. out (bounds_read file len same true second stands_too.1 within)))

  pub both_same : IsKnownVersion first.version → IsKnownVersion second.version → first.number ≡ second.number → (IsNoStore file → ⊥) × HasBadField file
  both_same version version_too number = (both_store version version_too, Same_number stands.0 stands_too.0 (stands.1.number ∙ (number ∙ sym stands_too.1.number)))

  pub first_taken : (root : Root) → IsRootOf first root → IsKnownVersion first.version → IsKnownVersion second.version → IsInBounds len first → IsInBounds len second → second.number < first.number → (stale : Stale) × IsTaken file false root stale
  first_taken root is version version_too within within_too greater = (
    Older (root_with second),
    record {
      open_gate = stands.0;
      fields = root_fields file len same false first stands.1 root is within;
      sound = root_sound file len same false first stands.1 root is within version;
      other = (
        stands_too.0,
        root_fields file len same true second stands_too.1 (root_with second) (root_with_is second) within_too,
        root_sound file len same true second stands_too.1 (root_with second) (root_with_is second) within_too version_too,
        omega (arith, greater, is.number),
      );
    },
  )

  pub second_taken : (root : Root) → IsRootOf second root → IsKnownVersion first.version → IsKnownVersion second.version → IsInBounds len first → IsInBounds len second → first.number < second.number → (stale : Stale) × IsTaken file true root stale
  second_taken root is version version_too within within_too greater = (
    Older (root_with first),
    record {
      open_gate = stands_too.0;
      fields = root_fields file len same true second stands_too.1 root is within_too;
      sound = root_sound file len same true second stands_too.1 root is within_too version_too;
      other = (
        stands.0,
        root_fields file len same false first stands.1 (root_with first) (root_with_is first) within,
        root_sound file len same false first stands.1 (root_with first) (root_with_is first) within version,
        omega (arith, greater, is.number),
      );
    },
  )

-- what was read from the gate on
pub fields_stand : (file : List ℕ) (side : Bool) (bytes : List ℕ) (fields : Fields) → IsAt file (root_gate side) bytes → length bytes ≡ 36 → AreFieldsIn bytes fields → AreFields file side fields
unfolding number_in
fields_stand file side bytes fields is whole are =
    let place = root_gate side in
    let half : slice_index bytes 17 ≡ slice_index file (place + 17) = at_index file place bytes is 17 (omega arith) in
    record {
      number = sym (number_read file place bytes is 1 (place + 1) 8 refl (omega arith)) ∙ are.number;
      directory = sym (number_read file place bytes is 9 (place + 9) 8 refl (omega arith)) ∙ are.directory;
      half = omega (arith, half, are.half);
      first = sym (number_read file place bytes is 18 (place + 18) 8 refl (omega arith)) ∙ are.first;
      pages = sym (number_read file place bytes is 26 (place + 26) 8 refl (omega arith)) ∙ are.pages;
      version = sym (number_read file place bytes is 34 (place + 34) 2 refl (omega arith)) ∙ are.version;
    }

-- a fault of the device says nothing of the file
pub chooses_nothing : (T : Type 0) (file : List ℕ) (fault : Fault) → OnlyDevice {T = T} (Err fault) → Chooses file (Err fault)
chooses_nothing T file FileFull none = absurd none
chooses_nothing T file HalfFull none = absurd none
chooses_nothing T file (Damaged damage) none = absurd none
chooses_nothing T file NotAStore none = absurd none
chooses_nothing T file (Disk fault) none = tt
chooses_nothing T file OutOfMemory none = absurd none

-- and a verdict is none of the device
pub judged_counts : (S T : Type 0) (old new : ℕ) (fault : Fault) → IsJudged {T = S} (Err fault) → new ≡ old → CountsFault {T = T} old new (Err fault)
judged_counts S T old new FileFull none same = absurd none
judged_counts S T old new HalfFull none same = absurd none
judged_counts S T old new (Damaged damage) none same = same
judged_counts S T old new NotAStore none same = same
judged_counts S T old new (Disk fault) none same = absurd none
judged_counts S T old new OutOfMemory none same = absurd none
