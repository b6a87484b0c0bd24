-- The rounds of a set.
use Rattle.std.specs.Prelude.{◌≡◌, ℕ, ◌+◌, ℤ, Bool, true, false, cond, [], ◌∷◌, ◌++◌, count_by, if◌then◌else◌, refl}
use Rattle.std.specs.List.{list_any}
use Rattle.std.proofs.Common.{sym, ◌∙◌, ap, arith}
use Rattle.std.proofs.lemmas.Bool.{false≢true, or_parts}
use Rattle.std.proofs.lemmas.List.Sums.{sum_by-cons}
use Rattle.rr_roster.specs.declared.company.Kind.{Kind}
use Rattle.rr_books.specs.declared.parties.Party.TheVariants as P
use Rattle.rr_books.specs.declared.entries.Entry.{Entry}
use Rattle.rr_books.specs.declared.entries.Entry.TheVariants as E
use Rattle.rr_books.specs.declared.entries.Marker.TheVariants as M
use Rattle.rr_books.specs.declared.acts.Act.{Act}
use Rattle.rr_books.specs.declared.acts.Act.TheVariants as A
use Rattle.rr_books.specs.Book.{Book, balance, train_holder}
use Rattle.rr_market.specs.Operations.Phases.{phase, rounds_in_set}
use Rattle.rr_market.specs.Operations.Progress.{Progress, after, after_act, after_entry, after_first_round, after_next_round, follow, is_operating, progress}
use Rattle.rr_market.specs.Operations.OperatingLaws.{SetsKeepTheirLength, begins_operating, ends_set}
use Rattle.rr_market.proofs.OperationsLemmas.ProgressLemmas.{from_first}

-- the set goes on, with so many rounds more
record GoesOn (old new : Progress) (more : ℕ) : Type 0 where
  operating : is_operating new.stage ≡ true
  length : new.set_length ≡ old.set_length
  round : new.round ≡ old.round + more

act_goes_on : (act : Act) (p : Progress) → is_operating p.stage ≡ true → GoesOn p (after_act act p) 0
act_goes_on (A.Lay c hex tile turn) p h = record { operating = h; length = refl; round = omega arith }
act_goes_on (A.Station c hex centre) p h = record { operating = h; length = refl; round = omega arith }
act_goes_on (A.Run c sheet) p h = record { operating = h; length = refl; round = omega arith }
act_goes_on (A.RunBest c sheet certificate) p h = record { operating = h; length = refl; round = omega arith }
act_goes_on (A.PayOut c) p h = record { operating = h; length = refl; round = omega arith }
act_goes_on (A.Hold c) p h = record { operating = h; length = refl; round = omega arith }
act_goes_on (A.End c) p h = record { operating = h; length = refl; round = omega arith }
act_goes_on (A.Bankrupt s) p h = record { operating = h; length = refl; round = omega arith }
act_goes_on _ p h = record { operating = h; length = refl; round = omega arith }

next_goes_on : (now : Kind) (p : Progress) (b : Bool) → is_operating p.stage ≡ b → b ≡ true → GoesOn p (if b then after_next_round p else after_first_round now p) 1
next_goes_on now p true h t = record { operating = h; length = refl; round = refl }
next_goes_on now p false h t = absurd (false≢true t)

entry_goes_on : (now : Kind) (bank : ℤ) (p : Progress) (e : Entry) → is_operating p.stage ≡ true → ends_set e ≡ false → GoesOn p (after_entry now bank p e) (cond (begins_operating e) 1 0)
entry_goes_on now bank p (E.Step (M.Act act)) h k = act_goes_on act p h
entry_goes_on now bank p (E.Step M.Operating) h k = next_goes_on now p (is_operating p.stage) refl h
entry_goes_on now bank p (E.Step (M.Auction names)) h k = absurd (false≢true (sym k))
entry_goes_on now bank p (E.Step M.Stock) h k = absurd (false≢true (sym k))
entry_goes_on now bank p (E.Step (M.Float c)) h k = record { operating = h; length = refl; round = omega arith }
entry_goes_on now bank p (E.Pay from to amount) h k = record { operating = h; length = refl; round = omega arith }
entry_goes_on now bank p _ h k = record { operating = h; length = refl; round = omega arith }

goes_on : (book es : Book) (p : Progress) → is_operating p.stage ≡ true → list_any ends_set es ≡ false → GoesOn p (follow book p es) (count_by begins_operating es)
goes_on book [] p h k = record { operating = h; length = refl; round = omega arith }
goes_on book (e ∷ es) p h k =
    let parts = or_parts (ends_set e) (list_any ends_set es) k in
    let once = entry_goes_on (phase (train_holder book)) (balance book P.Bank) p e h parts.0 in
    let rest = goes_on (book ++ e ∷ []) es (after book p e) once.operating parts.1 in
    record {
      operating = rest.operating;
      length = rest.length ∙ once.length;
      round =
          let later = rest.round in
          let first = once.round in
          let both = sum_by-cons (λ (x : Entry). cond (begins_operating x) 1 0) e es in
          omega arith;
    }

-- the first round of a set, once it has begun
record IsFirst (now : Kind) (p : Progress) : Type 0 where
  operating : is_operating p.stage ≡ true
  length : p.set_length ≡ rounds_in_set now
  round : p.round ≡ 1

set_begins : (now : Kind) (p : Progress) (b : Bool) → b ≡ false → IsFirst now (if b then after_next_round p else after_first_round now p)
set_begins now p false h = record { operating = refl; length = refl; round = refl }
set_begins now p true h = absurd (false≢true (sym h))

pub sets_keep : SetsKeepTheirLength
sets_keep = record {
  length = λ book since h k.
      let e = E.Step M.Operating in
      let first = set_begins (phase (train_holder book)) (progress book) (is_operating (progress book).stage) h in
      ap (λ (p : Progress). p.set_length) (from_first book since e)
      ∙ (goes_on (book ++ e ∷ []) since (after book (progress book) e) first.operating k).length
      ∙ first.length;
  count = λ book since h k.
      let e = E.Step M.Operating in
      let first = set_begins (phase (train_holder book)) (progress book) (is_operating (progress book).stage) h in
      ap (λ (p : Progress). p.round) (from_first book since e)
      ∙ (goes_on (book ++ e ∷ []) since (after book (progress book) e) first.operating k).round
      ∙ ap (λ (n : ℕ). n + count_by begins_operating since) first.round;
}
