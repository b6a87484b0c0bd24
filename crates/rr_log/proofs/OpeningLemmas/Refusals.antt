-- Why a file isn't opened.
use Rattle.std.proofs.Common.{◌≡◌, inl, inr, ℕ, ◌+◌, List, length, refl, sym, subst}
use Rattle.rr_images.specs.Codec.{Codec, IsExact}
use Rattle.rr_images.specs.Layout.{Stands}
use Rattle.rr_images.specs.Refusing.{IsRefused, No_store, Damaged_record, Near, Far}
use Rattle.rr_images.proofs.Refusing.{stands_is_not_refused}
use Rattle.rr_pages.specs.declared.journal.reading.RunEnd.{RunEnd}
use Rattle.rr_pages.specs.Journal.Run.{Run}
use Rattle.rr_log.specs.Opening.Opened.{HasDamagedRecord}
use Rattle.rr_pages.specs.Journal.Layout.{other_half}
use Rattle.rr_reading.specs.declared.fault.Fault.{Fault}
use Rattle.rr_reading.specs.declared.fault.Fault.TheVariants.{Damaged, NotAStore, Disk, OutOfMemory}
use Rattle.rr_reading.specs.Faults.{IsNoVerdict}
use Rattle.rr_reading.specs.Held.{Held}
use Rattle.rr_reading.specs.Laws.{NamesChains, SpellsForms}
use Rattle.rr_reading.specs.Reading.{HasRoot, Holds, Refuses}
use Rattle.rr_reading.proofs.Standing.{all_refused}

-- a fault of the device alone says nothing of a file
pub device_refuses : (file : List ℕ) (fault : Fault) → IsNoVerdict fault → (fault ≡ OutOfMemory → ⊥) → Refuses file fault
device_refuses file (Damaged damage) none other = absurd none
device_refuses file NotAStore none other = absurd none
device_refuses file (Disk fault) none other = tt
device_refuses file OutOfMemory none other = absurd (other refl)

-- memory is wanted for a file that holds something
pub memory_refuses : (file now : List ℕ) (has : Held) (fault : Fault) → now ≡ file → Holds now has → fault ≡ OutOfMemory → Refuses file fault
memory_refuses file now has fault same holds wanted =
    let root : HasRoot file = subst (λ (f : List ℕ). HasRoot f) same (has.side, has.root, holds.chains.has_directory.taken) in
    subst (λ (f : Fault). Refuses file f) (sym wanted) root

-- a file that stands for a world is refused by no verdict
pub stands_no_verdict : (codec : Codec) (file : List ℕ) (fault : Fault) → Refuses file fault → IsExact codec → NamesChains codec → SpellsForms codec → (world : codec.World) → Stands codec file world → IsNoVerdict fault
stands_no_verdict codec file (Damaged damage) refused exact names forms world stands = absurd (stands_is_not_refused codec exact file world stands (all_refused codec names file forms damage refused))
stands_no_verdict codec file NotAStore refused exact names forms world stands = absurd (stands_is_not_refused codec exact file world stands (No_store refused))
stands_no_verdict codec file (Disk fault) refused exact names forms world stands = tt
stands_no_verdict codec file OutOfMemory refused exact names forms world stands = tt

pub damaged_record_refused : (codec : Codec) (file : List ℕ) (has : Held) → Holds file has → HasDamagedRecord has → IsRefused codec file
damaged_record_refused codec file has holds (inl is) =
    let taken = holds.chains.has_directory.taken in
    Damaged_record has.side has.root taken.0 taken.1 (Near has.near (subst (λ (end : RunEnd). Run file has.root.half 0 has.root.first has.near end) is holds.near_run))
damaged_record_refused codec file has holds (inr is) =
    let taken = holds.chains.has_directory.taken in
    Damaged_record has.side has.root taken.0 taken.1
    (Far has.near has.far has.near_end holds.near_run (subst (λ (end : RunEnd). Run file (other_half has.root.half) 0 (has.root.first + length has.near) has.far end) is holds.far_run))
