-- The moments of one write, and of one write and its sync.
use Rattle.std.proofs.Common.{◌≡◌, ℕ, List, [], ◌∷◌, length, sym, subst, arith}
use Rattle.rr_disk.specs.Disk.{DiskState, IsImage, after_write, after_sync, FailedWrite}
use Rattle.rr_disk.specs.Moments.{LeavesOnly, TornFrom}
use Rattle.rr_disk.proofs.ImageLemmas.{each_synced, torn_nothing, torn_whole, torn_from, torn_failed}
use Rattle.rr_disk.proofs.MomentLemmas.{started, becomes, fails}

-- what a read gives behind the write
content_torn : (before : DiskState) (at : ℕ) (bytes : List ℕ) → IsImage before before.content → TornFrom before at (length bytes) (after_write before at bytes).content
content_torn before at [] may = torn_nothing before at 0 before.content may
content_torn before at (byte ∷ bytes) may = record { earlier = before.content; was = may; torn = torn_whole before.content at (byte ∷ bytes) }

module _ (past : List DiskState) (before : DiskState) (at : ℕ) where
  begun : (n : ℕ) → LeavesOnly past before past before (TornFrom before at n)
  begun n = started past before (TornFrom before at n) (λ image is. torn_nothing before at n image is)

  pub write_fails : {n : ℕ} {past_new : List DiskState} {new : DiskState} → FailedWrite at n past before past_new new → LeavesOnly past before past_new new (TornFrom before at n)
  write_fails {n} failed = fails (begun n) failed (λ upto front no_more image is. torn_failed before at n upto front image no_more is)

  module _ (bytes : List ℕ) {past_mid : List DiskState} {mid : DiskState} where
    pub write_done : past_mid ≡ before ∷ past → mid ≡ after_write before at bytes → LeavesOnly past before past_mid mid (TornFrom before at (length bytes))
    write_done passed written = becomes (begun (length bytes)) (after_write before at bytes) passed written (λ image is. torn_from before at (length bytes) bytes image (omega arith) is)

    pub put_done : LeavesOnly past before past_mid mid (TornFrom before at (length bytes)) → mid ≡ after_write before at bytes → IsImage before before.content
        → {past_new : List DiskState} {new : DiskState} → past_new ≡ mid ∷ past_mid → new ≡ after_sync mid → LeavesOnly past before past_new new (TornFrom before at (length bytes))
    put_done leaves written may {past_new} {new} passed settled =
        becomes leaves (after_sync mid) passed settled
        (each_synced mid (TornFrom before at (length bytes)) (subst (λ (s : DiskState). TornFrom before at (length bytes) s.content) (sym written) (content_torn before at bytes may)))
