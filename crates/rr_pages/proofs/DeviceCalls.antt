-- The calls of shutting a gate and of a put.
use Rattle.std.specs.Prelude.{Result, Ok, Err, OnErr, ◌==◌, if◌then◌else◌}
use Rattle.std.proofs.Common.{◌≡◌, ℕ, List, [], ◌∷◌, slice_index, sym, ap, subst}
use Rattle.rr_disk.specs.Calls.{Step, Write, Sync, Account, StopsWithin}
use Rattle.rr_disk.specs.Disk.{DiskState}
use Rattle.rr_pages.specs.Device.{shutting}

pub err_so : {T E : Type 0} (result : Result T E) (P Q : Type 0) → (P → Q) → OnErr result P → OnErr result Q
err_so (Ok value) P Q so holds = tt
err_so (Err fault) P Q so holds = so holds

-- a call that changes nothing
pub same_account : (old new : Account) → new.past ≡ old.past → new.state ≡ old.state → new.writes ≡ old.writes → new.syncs ≡ old.syncs → new ≡ old
same_account old new past state writes syncs = λ i. record { past = past i; state = state i; writes = writes i; syncs = syncs i }

-- a write and its sync, by other words for its place and bytes
pub stops_moved : (old new : Account) (a b : ℕ) (xs ys : List ℕ) → a ≡ b → xs ≡ ys → StopsWithin old (Write a xs ∷ Sync ∷ []) new → StopsWithin old (Write b ys ∷ Sync ∷ []) new
stops_moved old new a b xs ys place same stops = subst (λ (steps : List Step). StopsWithin old steps new) (λ i. Write (place i) (same i) ∷ Sync ∷ []) stops

-- an open gate is shut by a write
pub shutting_open : (old : DiskState) (at : ℕ) → slice_index old.content at ≡ 0xa5 → Write at (0 ∷ []) ∷ Sync ∷ [] ≡ shutting old at
shutting_open old at is = sym (ap (λ (byte : ℕ). if byte == 0xa5 then Write at (0 ∷ []) ∷ Sync ∷ [] else Sync ∷ []) is)
