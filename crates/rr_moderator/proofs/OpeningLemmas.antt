-- What an opening leaves that wants memory once the store is open.
use Rattle.std.proofs.Common.{◌≡◌, List, Ok, Err, sym, subst}
use Rattle.rr_disk.specs.Disk.{DiskState}
use Rattle.rr_kit.specs.Kits.{KitTexts}
use Rattle.rr_store.specs.declared.fault.Fault as store
use Rattle.rr_store.specs.declared.fault.Fault.TheVariants as T
use Rattle.rr_store.specs.Allowing.{Between}
use Rattle.rr_store.specs.Opening.{OpenAllows}
use Rattle.rr_store.specs.World.{World}

-- the file that was opened was synced, and has a root that is taken
wants_behind : (past_old : List DiskState) (old : DiskState) (past_new : List DiskState) (new : DiskState) (texts : KitTexts) (tables : World) (fault : store.Fault) → fault ≡ T.OutOfMemory
    → Between past_old old past_new new (λ moments. OpenAllows old moments new (Ok (texts, tables))) → Between past_old old past_new new (λ moments. OpenAllows old moments new (Err fault))
wants_behind past_old old past_new new texts tables fault wanted opened =
    record {
      moments = opened.moments;
      passed = opened.passed;
      allowed = subst (λ (f : store.Fault). OpenAllows old opened.moments new (Err f)) (sym wanted) (opened.allowed.0, opened.allowed.1);
    }

pub wants_memory : {D : Type 0} (state : D → DiskState) (past : D → List DiskState) (old opened new : D) (texts : KitTexts) (tables : World) (fault : store.Fault) → fault ≡ T.OutOfMemory → new ≡ opened
    → Between (past old) (state old) (past opened) (state opened) (λ moments. OpenAllows (state old) moments (state opened) (Ok (texts, tables)))
    → Between (past old) (state old) (past new) (state new) (λ moments. OpenAllows (state old) moments (state new) (Err fault))
wants_memory {D} state past old opened new texts tables fault wanted same allowed =
    subst (λ (disk : D). Between (past old) (state old) (past disk) (state disk) (λ moments. OpenAllows (state old) moments (state disk) (Err fault))) (sym same)
    (wants_behind (past old) (state old) (past opened) (state opened) texts tables fault wanted allowed)
