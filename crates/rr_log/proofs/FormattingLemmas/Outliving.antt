-- What a stop leaves within calls that a fact outlives.
use Rattle.std.proofs.Common.{inl, inr, ℕ, List, [], ◌∷◌, ◌++◌, length, refl}
use Rattle.rr_disk.specs.Calls.{Step, Write, Sync, Account, after_step, after_steps, StopsWithin}
use Rattle.rr_disk.specs.Disk.{DiskState, IsImage, Torn, after_write, after_sync}
use Rattle.rr_disk.specs.Moments.{EachImage, LeavesOnly}
use Rattle.rr_disk.proofs.ImageLemmas.{each_failed, each_synced, each_torn, synced_may_stay, written_may_stay}
use Rattle.rr_disk.proofs.MomentLemmas.{becomes, fails, joins, started, stays}

-- a file that has P has it still where a stop tears one of these writes
abbrev pub Outlives : (List ℕ → Type 0) → List Step → Type 0
Outlives P [] = Unit {0}
Outlives P (Write at bytes ∷ steps) = ((old new : List ℕ) → P old → Torn at (length bytes) old new → P new) × Outlives P steps
Outlives P (Sync ∷ steps) = Outlives P steps

pub outlives_both : (P : List ℕ → Type 0) (front steps : List Step) → Outlives P front → Outlives P steps → Outlives P (front ++ steps)
outlives_both P [] steps here later = later
outlives_both P (Write at bytes ∷ front) steps here later = (here.0, outlives_both P front steps here.1 later)
outlives_both P (Sync ∷ front) steps here later = outlives_both P front steps here later

-- a state of whose images each has P, and of which what a read gives may stay
pub record Has (P : List ℕ → Type 0) (state : DiskState) : Type 0 where
  pub stays : IsImage state state.content
  pub each : EachImage state P

module _ (P : List ℕ → Type 0) (old : DiskState) (has : Has P old) where
  pub has_written : (at : ℕ) (bytes : List ℕ) → ((old new : List ℕ) → P old → Torn at (length bytes) old new → P new) → Has P (after_write old at bytes)
  has_written at bytes outlives = record { stays = written_may_stay old at bytes has.stays; each = each_torn old at bytes P has.each outlives }

  pub has_synced : Has P (after_sync old)
  has_synced = record { stays = synced_may_stay old; each = each_synced old P (has.each old.content has.stays) }

-- all calls succeed
pub leaves_all : (P : List ℕ → Type 0) (old : Account) (steps : List Step) → Outlives P steps → Has P old.state → LeavesOnly old.past old.state (after_steps old steps).past (after_steps old steps).state P
leaves_all P old [] outlives has = started old.past old.state P has.each
leaves_all P old (Write at bytes ∷ steps) outlives has =
    let then = has_written P old.state has at bytes outlives.0 in
    joins (becomes (started old.past old.state P has.each) (after_write old.state at bytes) refl refl then.each)
    (leaves_all P (after_step old (Write at bytes)) steps outlives.1 then)
leaves_all P old (Sync ∷ steps) outlives has =
    let then = has_synced P old.state has in
    joins (becomes (started old.past old.state P has.each) (after_sync old.state) refl refl then.each) (leaves_all P (after_step old Sync) steps outlives then)

-- or one of them fails
pub leaves_some : (P : List ℕ → Type 0) (old new : Account) (steps : List Step) → StopsWithin old steps new → Outlives P steps → Has P old.state → LeavesOnly old.past old.state new.past new.state P
leaves_some P old new [] stops outlives has = absurd stops
leaves_some P old new (Write at bytes ∷ steps) (inl failed) outlives has =
    fails (started old.past old.state P has.each) failed.0 (each_failed old.state at (length bytes) P has.each outlives.0)
leaves_some P old new (Write at bytes ∷ steps) (inr later) outlives has =
    let then = has_written P old.state has at bytes outlives.0 in
    joins (becomes (started old.past old.state P has.each) (after_write old.state at bytes) refl refl then.each)
    (leaves_some P (after_step old (Write at bytes)) new steps later outlives.1 then)
leaves_some P old new (Sync ∷ steps) (inl failed) outlives has = stays (started old.past old.state P has.each) failed.0 failed.1
leaves_some P old new (Sync ∷ steps) (inr later) outlives has =
    let then = has_synced P old.state has in
    joins (becomes (started old.past old.state P has.each) (after_sync old.state) refl refl then.each)
    (leaves_some P (after_step old Sync) new steps later outlives then)
