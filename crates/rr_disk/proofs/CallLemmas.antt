-- Calls in turn, from one to the next.
use Rattle.std.proofs.Common.{◌≡◌, inl, inr, ℕ, List, [], ◌∷◌, ◌++◌, Result, Ok, Err, OnErr}
use Rattle.rr_disk.specs.Disk.{after_write, after_sync, counted}
use Rattle.rr_disk.specs.Calls.{Step, Write, Sync, Account, after_step, after_steps, StopsWithin}

-- a write, and a sync, that succeeded
pub written : (old new : Account) (at : ℕ) (bytes : List ℕ) → new.past ≡ old.state ∷ old.past → new.state ≡ after_write old.state at bytes → new.writes ≡ counted old.writes → new.syncs ≡ old.syncs
    → new ≡ after_step old (Write at bytes)
written old new at bytes past state writes syncs = λ i. record { past = past i; state = state i; writes = writes i; syncs = syncs i }

pub synced : (old new : Account) → new.past ≡ old.state ∷ old.past → new.state ≡ after_sync old.state → new.writes ≡ old.writes → new.syncs ≡ counted old.syncs → new ≡ after_step old Sync
synced old new past state writes syncs = λ i. record { past = past i; state = state i; writes = writes i; syncs = syncs i }

-- calls behind others
pub stops_before : (old new : Account) (front steps : List Step) → StopsWithin old front new → StopsWithin old (front ++ steps) new
stops_before old new [] steps stops = absurd stops
stops_before old new (step ∷ front) steps (inl here) = inl here
stops_before old new (step ∷ front) steps (inr later) = inr (stops_before (after_step old step) new front steps later)

pub stops_behind : (old new : Account) (front steps : List Step) → StopsWithin (after_steps old front) steps new → StopsWithin old (front ++ steps) new
stops_behind old new [] steps stops = stops
stops_behind old new (step ∷ front) steps stops = inr (stops_behind (after_step old step) new front steps stops)

pub all_behind : (old : Account) (front steps : List Step) → after_steps (after_steps old front) steps ≡ after_steps old (front ++ steps)
all_behind old [] steps = λ i. after_steps old steps
all_behind old (step ∷ front) steps = all_behind (after_step old step) front steps

pub on_err : {T E : Type 0} {P : Type 0} (result : Result T E) → P → OnErr result P
on_err (Ok value) holds = tt
on_err (Err error) holds = holds
