-- What is said where the device failed, and the device calls of an append.
use Rattle.std.proofs.Common.{◌≡◌, inl, inr, ℕ, ◌+◌, List, [], ◌∷◌, length, Result, Ok, Err, ◌∙◌, subst, arith}
use Rattle.rr_disk.specs.Calls.{Step, Write, Sync, Account, after_steps, StopsWithin}
use Rattle.rr_disk.specs.Disk.{FailedWrite}
use Rattle.rr_disk.proofs.CallLemmas.{stops_before, stops_behind}
use Rattle.rr_disk.proofs.FailureLemmas.{whole_failed}
use Rattle.rr_pages.specs.declared.fault.Fault.{Fault}
use Rattle.rr_pages.specs.declared.fault.Fault.TheVariants.{FileFull, HalfFull, Damaged, NotAStore, Disk, OutOfMemory}
use Rattle.rr_pages.specs.declared.journal.half.Half.{Half}
use Rattle.rr_pages.specs.Faults.{OnDeviceFault}
use Rattle.rr_pages.specs.Journal.Layout.{spelling_behind_gate}
use Rattle.rr_pages.specs.Journal.Stops.{next_gate, appending}

-- a fact that holds anyway
pub on_device : {T P : Type 0} (result : Result T Fault) → P → OnDeviceFault result P
on_device (Ok value) fact = tt
on_device (Err FileFull) fact = tt
on_device (Err HalfFull) fact = tt
on_device (Err (Damaged damage)) fact = tt
on_device (Err NotAStore) fact = tt
on_device (Err (Disk fault)) fact = fact
on_device (Err OutOfMemory) fact = tt

-- a write and its sync, where one of the two fails: with the sync all the bytes went out
pub put_failed : (old new : Account) (at : ℕ) (bytes : List ℕ) → StopsWithin old (Write at bytes ∷ Sync ∷ []) new → FailedWrite at (length bytes) old.past old.state new.past new.state
put_failed old new at bytes (inl here) = here.0
put_failed old new at bytes (inr (inl here)) = whole_failed at (length bytes) bytes old.past new.past old.state new.state (omega arith) here.0 here.1
put_failed old new at bytes (inr (inr never)) = absurd never

-- the two writes of an append, each with its sync, at this gate and of these bytes
module _ (half : Half) (number : ℕ) (bytes : List ℕ) (old : Account) (gate : ℕ) (body gate_byte : List ℕ) (place : gate ≡ next_gate half) (is_body : body ≡ spelling_behind_gate number bytes) (is_gate : gate_byte ≡ 165 ∷ []) where
  abbrev firsts : List Step
  firsts = Write (next_gate half + 1) (spelling_behind_gate number bytes) ∷ Sync ∷ []

  abbrev seconds : List Step
  seconds = Write (next_gate half) (165 ∷ []) ∷ Sync ∷ []

  are_firsts : Write (gate + 1) body ∷ Sync ∷ [] ≡ firsts
  are_firsts = λ i. Write (place i + 1) (is_body i) ∷ Sync ∷ []

  are_seconds : Write gate gate_byte ∷ Sync ∷ [] ≡ seconds
  are_seconds = λ i. Write (place i) (is_gate i) ∷ Sync ∷ []

  pub stops_in_first : (new : Account) → StopsWithin old (Write (gate + 1) body ∷ Sync ∷ []) new → StopsWithin old (appending half number bytes) new
  stops_in_first new stops = stops_before old new firsts seconds (subst (λ (steps : List Step). StopsWithin old steps new) are_firsts stops)

  module _ (mid : Account) (first : mid ≡ after_steps old (Write (gate + 1) body ∷ Sync ∷ [])) where
    is_mid : mid ≡ after_steps old firsts
    is_mid = first ∙ (λ i. after_steps old (are_firsts i))

    pub stops_in_second : (new : Account) → StopsWithin mid (Write gate gate_byte ∷ Sync ∷ []) new → StopsWithin old (appending half number bytes) new
    stops_in_second new stops =
        stops_behind old new firsts seconds
        (subst (λ (state : Account). StopsWithin state seconds new) is_mid (subst (λ (steps : List Step). StopsWithin mid steps new) are_seconds stops))

    pub appended : (new : Account) → new ≡ after_steps mid (Write gate gate_byte ∷ Sync ∷ []) → new ≡ after_steps old (appending half number bytes)
    appended new second = second ∙ (λ i. after_steps (is_mid i) (are_seconds i))
