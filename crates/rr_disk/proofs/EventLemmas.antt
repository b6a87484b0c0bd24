-- One more call behind those that a file answered.
use Rattle.std.proofs.Common.{◌≡◌, ℕ, zero, suc, List, [], ◌∷◌, length, refl, sym, ◌∙◌, ap, subst, arith}
use Rattle.rr_disk.specs.Disk.{DiskState, IsImage, length_after, after_failed_write, FailedWrite, Nothing_out, Some_out}
use Rattle.rr_disk.specs.Events.{Event, state_after, past_after, Agree}
use Rattle.rr_disk.specs.declared.file_record.FileCall.TheVariants as C
use Rattle.rr_disk.proofs.ImageLemmas.{written_may_stay, failed_may_stay, length-after_write}

-- of a write that failed nothing is seen
unseen : (state : DiskState) (at n : ℕ) → (after_failed_write state at n []).content ≡ state.content
unseen state at zero = refl
unseen state at (suc n) = refl

module _ (held : DiskState) (events new : List Event) where
  -- the length that is gone by, and that what a read gives may stay
  abbrev pub Knows : List Event → ℕ → Type 0
  Knows now len = Agree held now → len ≡ length (state_after held now).content

  abbrev pub Stays : List Event → Type 0
  Stays now = IsImage (state_after held now) (state_after held now).content

  module _ (at len : ℕ) (bytes : List ℕ) where
    pub knows_failed : new ≡ (C.FailedWrite at, bytes) ∷ events → Knows events len → Knows new len
    knows_failed is knows =
        subst (λ (now : List Event). Knows now len) (sym is)
        (λ agree. knows agree.0 ∙ sym (ap (λ (file : List ℕ). length file) (unseen (state_after held events) at (length bytes))))

    pub knows_written : (longer : ℕ) → new ≡ (C.Write at, bytes) ∷ events → longer ≡ length_after len at (length bytes) → Knows events len → Knows new longer
    knows_written longer is ends knows =
        subst (λ (now : List Event). Knows now longer) (sym is)
        (λ agree. ends ∙ (ap (λ (n : ℕ). length_after n at (length bytes)) (knows agree.0) ∙ sym (length-after_write (state_after held events) at bytes)))

  module _ (at : ℕ) (bytes : List ℕ) where
    pub stays_failed : new ≡ (C.FailedWrite at, bytes) ∷ events → Stays events → Stays new
    stays_failed is stays = subst Stays (sym is) (failed_may_stay (state_after held events) at (length bytes) stays)

    pub stays_written : new ≡ (C.Write at, bytes) ∷ events → Stays events → Stays new
    stays_written is stays = subst Stays (sym is) (written_may_stay (state_after held events) at bytes stays)

    -- that it failed, by what was noted
    abbrev pub Failed : List Event → Type 0
    Failed now = FailedWrite at (length bytes) (past_after held events) (state_after held events) (past_after held now) (state_after held now)

    pub failed_noted : new ≡ (C.FailedWrite at, bytes) ∷ events → Failed new
    failed_noted is = subst Failed (sym is) (Some_out (length bytes) [] (omega arith) (omega arith) refl refl)

    pub failed_unnoted : new ≡ events → Failed new
    failed_unnoted is = subst Failed (sym is) (Nothing_out refl refl)
