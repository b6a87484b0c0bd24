-- What an opening does to a disk: one sync, and reads.
use Rattle.std.specs.Prelude.{◌≡◌, List, ◌∷◌, Result, Ok, Err}
use Rattle.rr_disk.specs.Disk.{DiskState, after_sync}
use Rattle.rr_disk.specs.Moments.{SyncsOnce}
use Rattle.rr_reading.specs.declared.fault.Fault.{Fault}
use Rattle.rr_reading.specs.declared.fault.Fault.TheVariants.{Damaged, NotAStore, Disk, OutOfMemory}

-- one sync was made
pub record WasSynced (past_old : List DiskState) (old : DiskState) (past_new : List DiskState) (new : DiskState) : Type 0 where
  pub passed : past_new ≡ old ∷ past_old
  pub settled : new ≡ after_sync old

-- so it is whatever is answered, unless the device failed: then it may be the sync that did
abbrev pub IsSynced : {T : Type 0} → Result T Fault → List DiskState → DiskState → List DiskState → DiskState → Type 0
IsSynced (Ok opened) past_old old past_new new = WasSynced past_old old past_new new
IsSynced (Err (Damaged damage)) past_old old past_new new = WasSynced past_old old past_new new
IsSynced (Err NotAStore) past_old old past_new new = WasSynced past_old old past_new new
IsSynced (Err (Disk fault)) past_old old past_new new = SyncsOnce past_old old past_new new
IsSynced (Err OutOfMemory) past_old old past_new new = WasSynced past_old old past_new new
