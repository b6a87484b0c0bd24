-- How the file of a log grows, and which of its pages are taken.
use Rattle.std.proofs.Common.{◌≡◌, ◌⊎◌, inl, inr, ◌∙◌, ℕ, ◌<◌, ◌≤◌, Bool, false, List, Result, Ok, Err, OnErr, ap, subst, sym, arith}
use Rattle.rr_checkpoint.specs.Growing.{AreReclaimed, FreesAt, GrowsWhereFull}
use Rattle.rr_checkpoint.specs.Writer.{Lowers}
use Rattle.rr_checkpoint.specs.declared.writer.Tick.{Tick}
use Rattle.rr_checkpoint.specs.declared.writer.Tick.TheVariants.{Idle, More, Done}
use Rattle.rr_checkpoint.proofs.Growing.{grows_by_pages, never_grows}
use Rattle.rr_log.specs.declared.log.Log.{Log}
use Rattle.rr_log.specs.Growing.{Grows, TakesPages}
use Rattle.rr_log.specs.Log.{disk_of, free_of, is_broken, ticks_left}
use Rattle.rr_pages.specs.declared.free_pages.FreePages.{FreePages}
use Rattle.rr_pages.specs.FreePages.{coming_of, present_of}

-- where a call fails more is so
pub err_so : {T E : Type 0} (result : Result T E) (P Q : Type 0) → (P → Q) → OnErr result P → OnErr result Q
err_so (Ok value) P Q so given = tt
err_so (Err fault) P Q so given = so given

-- the same told by other names of the pages, and of the length from before
pub grows_told : (present coming present_told coming_told : List Bool) (len len_new : ℕ) → present_told ≡ present → coming_told ≡ coming → GrowsWhereFull present coming len len_new
    → GrowsWhereFull present_told coming_told len len_new
grows_told present coming present_told coming_told len len_new is_present is_coming grows =
    subst (λ (p : List Bool). GrowsWhereFull p coming_told len len_new) (sym is_present) (subst (λ (k : List Bool). GrowsWhereFull present k len len_new) (sym is_coming) grows)

pub grows_from : (present coming : List Bool) (len told len_new : ℕ) → told ≡ len → GrowsWhereFull present coming len len_new → GrowsWhereFull present coming told len_new
grows_from present coming len told len_new same grows = subst (λ (n : ℕ). GrowsWhereFull present coming n len_new) (sym same) grows

pub grows_to : (present coming : List Bool) (len len_new told : ℕ) → told ≡ len_new → GrowsWhereFull present coming len len_new → GrowsWhereFull present coming len told
grows_to present coming len len_new told same grows = subst (λ (n : ℕ). GrowsWhereFull present coming len n) (sym same) grows

-- a tick behind which none is left is one of the last three
pub last_few : (tick : Tick) (left rest : ℕ) → Lowers tick left rest → rest ≡ 0 → left ≤ 3
last_few Idle left rest lowers none = omega (arith, lowers.0)
last_few More left rest lowers none = absurd (omega (arith, lowers.1, none))
last_few Done left rest lowers none = omega (arith, lowers.0)

-- behind a tick the same pages are taken, unless it was the last
pub still_or_last : (tick : Tick) (left rest : ℕ) (old new : FreePages) → Lowers tick left rest → FreesAt tick old new → (new ≡ old) ⊎ ((left ≡ 1) × AreReclaimed old new)
still_or_last Idle left rest old new lowers frees = inl frees
still_or_last More left rest old new lowers frees = inl frees
still_or_last Done left rest old new lowers frees = inr (lowers.0, frees)

pub not_last : (left : ℕ) (old new : FreePages) → 1 < left → (new ≡ old) ⊎ ((left ≡ 1) × AreReclaimed old new) → new ≡ old
not_last left old new more (inl still) = still
not_last left old new more (inr last) = let one = last.0 in absurd (omega (arith, more, one))

pub any_last : (left : ℕ) (old new : FreePages) → (new ≡ old) ⊎ ((left ≡ 1) × AreReclaimed old new) → (new ≡ old) ⊎ AreReclaimed old new
any_last left old new (inl still) = inl still
any_last left old new (inr last) = inr last.1

module _ {D R : Type 0} (len : D → ℕ) (old new : Log D R) where
  -- a call that leaves the length
  pub stays_long : len (disk_of new) ≡ len (disk_of old) → Grows len old new
  stays_long same = record { full = never_grows same; rests = λ whole none. same; ends = λ some few. same; begins = λ none begun. same }

  -- a record behind a step
  pub kept_grows : (then : Log D R) → Grows len old then → is_broken then ≡ false → len (disk_of new) ≡ len (disk_of then) → free_of new ≡ free_of then → ticks_left new ≡ ticks_left then → Grows len old new
  kept_grows then ticked whole same pages left =
      record {
        full = grows_to (present_of (free_of new)) (coming_of (free_of new)) (len (disk_of old)) (len (disk_of then)) (len (disk_of new)) same
            (grows_by_pages (free_of then) (free_of new) (len (disk_of old)) (len (disk_of then)) pages ticked.full);
        rests = λ still none. same ∙ ticked.rests whole (sym left ∙ none);
        ends = λ some few. same ∙ ticked.ends some few;
        begins = λ none begun. same ∙ ticked.begins none begun;
      }

module _ {D R : Type 0} (old new : Log D R) where
  -- a call that takes no other pages, and isn't the last step
  pub pages_still : free_of new ≡ free_of old → (ticks_left old ≡ 1 → ticks_left new ≡ 0 → is_broken new ≡ false → ⊥) → TakesPages old new
  pages_still same never = record { resting = λ none. ap present_of same; under_way = λ more. same; last = λ one. inl same; reclaims = λ one none whole. absurd (never one none whole) }

  -- without a checkpoint under way
  pub pages_resting : ticks_left old ≡ 0 → present_of (free_of new) ≡ present_of (free_of old) → TakesPages old new
  pages_resting left same = record {
    resting = λ none. same;
    under_way = λ more. absurd (omega (arith, left, more));
    last = λ one. absurd (omega (arith, left, one));
    reclaims = λ one none whole. absurd (omega (arith, left, one));
  }

  -- a record behind a step
  pub kept_pages : (then : Log D R) → TakesPages old then → is_broken then ≡ false → free_of new ≡ free_of then → ticks_left new ≡ ticks_left then → TakesPages old new
  kept_pages then ticked whole pages left =
      record {
        resting = λ none. ap present_of pages ∙ ticked.resting none;
        under_way = λ more. pages ∙ ticked.under_way more;
        last = λ one. elim (ticked.last one) [ inl still ↦ inl (pages ∙ still) | inr taken ↦ inr (by_pages taken) ];
        reclaims = λ one none still. by_pages (ticked.reclaims one (sym left ∙ none) whole);
      }
    where
      by_pages : AreReclaimed (free_of old) (free_of then) → AreReclaimed (free_of old) (free_of new)
      by_pages taken = subst (λ (f : FreePages). AreReclaimed (free_of old) f) (sym pages) taken
