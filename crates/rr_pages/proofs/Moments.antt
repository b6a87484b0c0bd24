-- The moments of shutting a gate, and of a flip.
use Rattle.std.specs.Prelude.{Result, Ok, Err, OnOk}
use Rattle.std.proofs.Common.{◌≡◌, inl, inr, ℕ, ◌+◌, List, [], ◌∷◌, slice_index, ◌∙◌, subst}
use Rattle.rr_disk.specs.Disk.{DiskState, IsImage, after_write, after_sync}
use Rattle.rr_disk.specs.Moments.{LeavesOnly, TornFrom}
use Rattle.rr_disk.proofs.ImageLemmas.{each_synced}
use Rattle.rr_disk.proofs.MomentLemmas.{started, stays, becomes, weaker, joins}
use Rattle.rr_pages.specs.Device.{Shuts, MayShut, Flips, MayFlip, While_shutting, While_filling, While_opening}

-- a sync alone leaves what could be left before it
pub sync_done : (past : List DiskState) (before : DiskState) → IsImage before before.content → {past_new : List DiskState} {new : DiskState} → past_new ≡ before ∷ past → new ≡ after_sync before → LeavesOnly past before past_new new (IsImage before)
sync_done past before may passed is =
    becomes (started past before (IsImage before) (λ image here. here)) (after_sync before) passed is (each_synced before (IsImage before) may)

-- nothing but a read, or a sync that failed
pub read_alone : (past : List DiskState) (before : DiskState) (at : ℕ) {past_new : List DiskState} {new : DiskState} → past_new ≡ past → new ≡ before → LeavesOnly past before past_new new (MayShut before at)
read_alone past before at same_past same = stays (started past before (MayShut before at) (λ image here. inl here)) same_past same

module _ {past past_read past_new : List DiskState} {before read new : DiskState} (at : ℕ) (same_past : past_read ≡ past) (same : read ≡ before) where
  pub shut_written : slice_index before.content at ≡ 0xa5 → LeavesOnly past_read read past_new new (TornFrom read at 1) → LeavesOnly past before past_new new (MayShut before at)
  shut_written open_gate leaves =
      let here : LeavesOnly past before past_new new (TornFrom before at 1) =
      subst (λ (p : List DiskState). LeavesOnly p before past_new new (TornFrom before at 1)) same_past
      (subst (λ (s : DiskState). LeavesOnly past_read s past_new new (TornFrom s at 1)) same leaves) in
      weaker here (MayShut before at) (λ image torn. inr (open_gate, torn))

  pub shut_synced : IsImage before before.content → past_new ≡ read ∷ past_read → new ≡ after_sync read → LeavesOnly past before past_new new (MayShut before at)
  shut_synced may passed is =
      let passed_on : past_new ≡ before ∷ past = passed ∙ (λ i. same i ∷ same_past i) in
      let is_on : new ≡ after_sync before = is ∙ (λ i. after_sync (same i)) in
      weaker (sync_done past before may passed_on is_on) (MayShut before at) (λ image here. inl here)

-- a tear, by other words for its place and length
pub moved : {past past_new : List DiskState} {before new state : DiskState} (a b m n : ℕ) → a ≡ b → m ≡ n → LeavesOnly past before past_new new (TornFrom state a m) → LeavesOnly past before past_new new (TornFrom state b n)
moved {past} {past_new} {before} {new} {state} a b m n place size leaves =
    subst (λ (k : ℕ). LeavesOnly past before past_new new (TornFrom state b k)) size (subst (λ (k : ℕ). LeavesOnly past before past_new new (TornFrom state k m)) place leaves)

-- shutting, filling and opening in turn
module _ (past : List DiskState) (old : DiskState) (gate : ℕ) (bytes : List ℕ) where
  pub flip_shuts : {past_new : List DiskState} {new : DiskState} → LeavesOnly past old past_new new (MayShut old gate) → LeavesOnly past old past_new new (MayFlip old gate bytes)
  flip_shuts leaves = weaker leaves (MayFlip old gate bytes) (λ image may. While_shutting may)

  pub flip_fills : {past_mid past_new : List DiskState} {mid new : DiskState} → LeavesOnly past old past_mid mid (MayShut old gate) → Shuts old gate mid → LeavesOnly past_mid mid past_new new (TornFrom mid (gate + 1) 35)
      → LeavesOnly past old past_new new (MayFlip old gate bytes)
  flip_fills {past_mid} {past_new} {mid} {new} shutting shuts filling =
      joins (flip_shuts shutting) (weaker filling (MayFlip old gate bytes) (λ image torn. While_filling mid shuts torn))

  pub flip_opens : {past_mid past_then past_new : List DiskState} {mid then new : DiskState} → LeavesOnly past old past_mid mid (MayShut old gate) → Shuts old gate mid → LeavesOnly past_mid mid past_then then (TornFrom mid (gate + 1) 35)
      → then ≡ after_sync (after_write mid (gate + 1) bytes) → LeavesOnly past_then then past_new new (TornFrom then gate 1)
      → LeavesOnly past old past_new new (MayFlip old gate bytes)
  flip_opens {past_mid} {past_then} {past_new} {mid} {then} {new} shutting shuts filling is opening =
      joins (flip_fills shutting shuts filling)
      (weaker opening (MayFlip old gate bytes) (λ image torn. While_opening mid shuts (subst (λ (s : DiskState). TornFrom s gate 1 image) is torn)))

  pub flipped : {mid then new : DiskState} → Shuts old gate mid → then ≡ after_sync (after_write mid (gate + 1) bytes) → new ≡ after_sync (after_write then gate (0xa5 ∷ [])) → Flips old gate bytes new
  flipped {mid} {then} {new} shuts is opens =
      record { closed = mid; closes = shuts; opens = opens ∙ (λ i. after_sync (after_write (is i) gate (0xa5 ∷ []))) }

pub ok_so : {T E : Type 0} (result : Result T E) (P Q : Type 0) → (P → Q) → OnOk result P → OnOk result Q
ok_so (Ok value) P Q so holds = so holds
ok_so (Err fault) P Q so holds = tt
