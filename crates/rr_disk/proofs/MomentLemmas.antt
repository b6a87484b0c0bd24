-- How a caller carries "a stop at any moment leaves only files that have P" from call to call.
use Rattle.std.proofs.Common.{◌≡◌, ℕ, ◌≤◌, List, [], ◌∷◌, ◌++◌, refl, sym, ◌∙◌, ap, subst}
use Rattle.std.proofs.lemmas.List.{append_assoc}
use Rattle.rr_disk.specs.Disk.{DiskState, after_failed_write, FailedWrite, Nothing_out, Some_out}
use Rattle.rr_disk.specs.Moments.{EachImage, EachImageOf, LeavesOnly}

pub EachImageOf-append : (front states : List DiskState) (P : List ℕ → Type 0) → EachImageOf front P → EachImageOf states P → EachImageOf (front ++ states) P
EachImageOf-append [] states P here rest = rest
EachImageOf-append (state ∷ front) states P here rest = (here.0, EachImageOf-append front states P here.1 rest)

pub EachImageOf-weaker : (states : List DiskState) (P Q : List ℕ → Type 0) → ((image : List ℕ) → P image → Q image) → EachImageOf states P → EachImageOf states Q
EachImageOf-weaker [] P Q f each = tt
EachImageOf-weaker (state ∷ states) P Q f each = (λ image is. f image (each.0 image is), EachImageOf-weaker states P Q f each.1)

-- before the first call
pub started : (past : List DiskState) (now : DiskState) (P : List ℕ → Type 0) → EachImage now P → LeavesOnly past now past now P
started past now P here = record { since = []; goes_on = refl; first = here; each = tt }

module _ {past_old : List DiskState} {old : DiskState} {past : List DiskState} {now : DiskState} {P : List ℕ → Type 0} (so_far : LeavesOnly past_old old past now P) where
  -- after a call that left state and past as they were: a read, or a sync that failed
  pub stays : {past_new : List DiskState} {new : DiskState} → past_new ≡ past → new ≡ now → LeavesOnly past_old old past_new new P
  stays same_past same_state =
      record {
        since = so_far.since;
        goes_on = (λ i. same_state i ∷ same_past i) ∙ so_far.goes_on;
        first = so_far.first;
        each = so_far.each;
      }

  -- after a call that led to another state: each of its images has P
  pub goes_on : {past_new : List DiskState} (new : DiskState) → past_new ≡ now ∷ past → EachImage new P → LeavesOnly past_old old past_new new P
  goes_on new passed here =
      record {
        since = new ∷ so_far.since;
        goes_on = ap (λ (states : List DiskState). new ∷ states) (passed ∙ so_far.goes_on);
        first = so_far.first;
        each = (here, so_far.each);
      }

  -- the same where the state is known by an equation, as after a write or a sync that succeeded
  pub becomes : {past_new : List DiskState} {new : DiskState} (known : DiskState) → past_new ≡ now ∷ past → new ≡ known → EachImage known P → LeavesOnly past_old old past_new new P
  becomes {past_new} {new} known passed is here = goes_on new passed (subst (λ (s : DiskState). EachImage s P) (sym is) here)

  -- after a write of n bytes that failed: whatever of its range is unsynced, each image has P
  pub fails : {at n : ℕ} {past_new : List DiskState} {new : DiskState} → FailedWrite at n past now past_new new
      → ((upto : ℕ) (front : List ℕ) → upto ≤ n → EachImage (after_failed_write now at upto front) P) → LeavesOnly past_old old past_new new P
  fails {at} {n} {past_new} {new} failed here = elim failed [
    | Nothing_out same_past same_state ↦ stays same_past same_state
    | Some_out upto front fewer no_more passed is ↦ becomes (after_failed_write now at upto front) passed is (here upto front no_more)
  ]

  -- a second run from where the first ended
  pub joins : {past_new : List DiskState} {new : DiskState} → LeavesOnly past now past_new new P → LeavesOnly past_old old past_new new P
  joins then =
      record {
        since = then.since ++ so_far.since;
        goes_on = then.goes_on ∙ (ap (λ (states : List DiskState). then.since ++ states) so_far.goes_on ∙ sym (append_assoc then.since so_far.since (old ∷ past_old)));
        first = so_far.first;
        each = EachImageOf-append then.since so_far.since P then.each so_far.each;
      }

  -- for a weaker fact
  pub weaker : (Q : List ℕ → Type 0) → ((image : List ℕ) → P image → Q image) → LeavesOnly past_old old past now Q
  weaker Q f =
      record {
        since = so_far.since;
        goes_on = so_far.goes_on;
        first = λ image is. f image (so_far.first image is);
        each = EachImageOf-weaker so_far.since P Q f so_far.each;
      }
