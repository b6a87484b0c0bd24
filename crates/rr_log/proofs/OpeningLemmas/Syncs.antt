-- What one sync leaves of a disk: whatever is answered, a stop leaves only what it could leave before.
use Rattle.std.proofs.Common.{◌≡◌, List, Result, Ok, Err, ◌∙◌}
use Rattle.rr_disk.specs.Disk.{DiskState, IsImage, after_sync}
use Rattle.rr_disk.specs.Moments.{LeavesOnly, SyncsOnce, Not_synced, Synced}
use Rattle.rr_disk.proofs.ImageLemmas.{each_synced}
use Rattle.rr_disk.proofs.MomentLemmas.{started, stays, becomes}
use Rattle.rr_log.specs.Opening.Syncing.{WasSynced, IsSynced}
use Rattle.rr_reading.specs.declared.fault.Fault.{Fault}
use Rattle.rr_reading.specs.declared.fault.Fault.TheVariants.{Damaged, NotAStore, Disk, OutOfMemory}

module _ (past_old : List DiskState) (old : DiskState) where
  was_left : {past_new : List DiskState} {new : DiskState} → WasSynced past_old old past_new new → IsImage old old.content → LeavesOnly past_old old past_new new (IsImage old)
  was_left was may_stay = becomes (started past_old old (IsImage old) (λ image is. is)) (after_sync old) was.passed was.settled (each_synced old (IsImage old) may_stay)

  once_left : {past_new : List DiskState} {new : DiskState} → SyncsOnce past_old old past_new new → IsImage old old.content → LeavesOnly past_old old past_new new (IsImage old)
  once_left (Not_synced same_past same_state) may_stay = stays (started past_old old (IsImage old) (λ image is. is)) same_past same_state
  once_left (Synced passed settled) may_stay = was_left (record { passed = passed; settled = settled }) may_stay

  -- after the sync, or one that failed
  pub synced_left : {T : Type 0} (past_new : List DiskState) (new : DiskState) (result : Result T Fault) → IsSynced result past_old old past_new new → IsImage old old.content → LeavesOnly past_old old past_new new (IsImage old)
  synced_left past_new new (Ok value) is may_stay = was_left is may_stay
  synced_left past_new new (Err (Damaged damage)) is may_stay = was_left is may_stay
  synced_left past_new new (Err NotAStore) is may_stay = was_left is may_stay
  synced_left past_new new (Err (Disk fault)) is may_stay = once_left is may_stay
  synced_left past_new new (Err OutOfMemory) is may_stay = was_left is may_stay

  -- and after reads behind it
  pub read_left : {past : List DiskState} {now : DiskState} {past_new : List DiskState} {new : DiskState} → WasSynced past_old old past now → past_new ≡ past → new ≡ now → IsImage old old.content → LeavesOnly past_old old past_new new (IsImage old)
  read_left was same_past same_state may_stay = was_left (record { passed = same_past ∙ was.passed; settled = same_state ∙ was.settled }) may_stay
