-- The calls that change a disk, made in turn: all of them, or those up to one that failed.
use Rattle.std.specs.Prelude.{◌≡◌, ◌⊎◌, ℕ, List, [], ◌∷◌, length}
use Rattle.rr_disk.specs.Disk.{DiskState, after_write, after_sync, FailedWrite, counted}
use Rattle.rr_disk.specs.declared.disk.Disk.{Ghosts}

-- a call that changes a disk: these bytes written from this byte on, or a sync
pub data Step : Type 0 where
  Write : ℕ → List ℕ → Step
  Sync : Step

-- what tells of the calls that were made so far
pub record Account : Type 0 where
  pub past : List DiskState
  pub state : DiskState
  pub writes : ℕ
  pub syncs : ℕ

abbrev pub account : {D : Type 0} → Ghosts D → D → Account
account seen disk =
    record { past = seen.past disk; state = seen.state disk; writes = seen.write_count disk; syncs = seen.sync_count disk }

-- after this call, which succeeds
abbrev pub after_step : Account → Step → Account
after_step old (Write at bytes) =
    record { past = old.state ∷ old.past; state = after_write old.state at bytes; writes = counted old.writes; syncs = old.syncs }
after_step old Sync =
    record { past = old.state ∷ old.past; state = after_sync old.state; writes = old.writes; syncs = counted old.syncs }

abbrev pub after_steps : Account → List Step → Account
after_steps old [] = old
after_steps old (step ∷ steps) = after_steps (after_step old step) steps

-- this call was made, and failed
abbrev pub FailsBy : Account → Step → Account → Type 0
FailsBy old (Write at bytes) new =
    FailedWrite at (length bytes) old.past old.state new.past new.state × (new.writes ≡ counted old.writes) × (new.syncs ≡ old.syncs)
FailsBy old Sync new =
    (new.past ≡ old.past) × (new.state ≡ old.state) × (new.writes ≡ old.writes) × (new.syncs ≡ counted old.syncs)

-- these calls were made up to one that failed, and none behind it
abbrev pub StopsWithin : Account → List Step → Account → Type 0
StopsWithin old [] new = ⊥
StopsWithin old (step ∷ steps) new = FailsBy old step new ⊎ StopsWithin (after_step old step) steps new
