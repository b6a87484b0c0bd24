-- A write that is cut short is a write that fails.
use Rattle.std.proofs.Common.{◌≡◌, ℕ, ◌≤◌, List, ◌∷◌, length, Result, Ok, Err, OnOk, OnErr, ◌∙◌, arith}
use Rattle.rr_disk.specs.Disk.{DiskState, after_write, FailedWrite, Nothing_out, Some_out}
use Rattle.rr_disk.proofs.ImageLemmas.{all_out}

pub fewer_failed : {at m n : ℕ} {past past_new : List DiskState} {old new : DiskState} → m ≤ n → FailedWrite at m past old past_new new → FailedWrite at n past old past_new new
fewer_failed {at} {m} {n} {past} {past_new} {old} {new} more failed = elim failed [
  | Nothing_out same_past same_state ↦ Nothing_out same_past same_state
  | Some_out upto front fewer no_more passed is ↦ Some_out upto front fewer (omega arith) passed is
]

-- bytes that went out whole
pub whole_failed : (at n : ℕ) (bytes : List ℕ) (past past_new : List DiskState) (old new : DiskState) → length bytes ≤ n → past_new ≡ old ∷ past → new ≡ after_write old at bytes → FailedWrite at n past old past_new new
whole_failed at n bytes past past_new old new fewer passed is = Some_out (length bytes) bytes (omega arith) fewer passed (is ∙ all_out old at bytes)

-- whichever way the write of the front ended
pub front_failed : {T E H : Type 0} (result : Result T E) (at n : ℕ) (front : List ℕ) (past past_new : List DiskState) (old new : DiskState) → length front ≤ n → H
    → OnOk result (H → new ≡ after_write old at front) → OnOk result (H → past_new ≡ old ∷ past) → OnErr result (H → FailedWrite at (length front) past old past_new new)
    → FailedWrite at n past old past_new new
front_failed (Ok value) at n front past past_new old new fewer honest written passed failed = whole_failed at n front past past_new old new fewer (passed honest) (written honest)
front_failed (Err fault) at n front past past_new old new fewer honest written passed failed = fewer_failed fewer (failed honest)
