-- How the progress of the operating rounds grows with its book.
use Rattle.std.specs.Prelude.{◌≡◌, ℕ, ◌+◌, ◌≤◌, ℤ, Bool, true, false, List, [], ◌∷◌, ◌++◌, Option, None, is_some, fold, if◌then◌else◌, refl}
use Rattle.std.proofs.Common.{sym, ◌∙◌, ap, append_assoc, append-nil, arith}
use Rattle.std.proofs.Math.Path.{fun_ext}
use Rattle.rr_roster.specs.declared.company.Kind.{Kind}
use Rattle.rr_books.specs.declared.certificates.Train.{Train}
use Rattle.rr_books.specs.declared.parties.Party.TheVariants as P
use Rattle.rr_books.specs.declared.entries.Entry.{Entry}
use Rattle.rr_books.specs.declared.entries.Entry.TheVariants as E
use Rattle.rr_books.specs.declared.entries.Marker.{Marker}
use Rattle.rr_books.specs.declared.entries.Marker.TheVariants as M
use Rattle.rr_books.specs.declared.acts.Act.{Act}
use Rattle.rr_books.specs.declared.acts.Act.TheVariants as A
use Rattle.rr_books.specs.Book.{Book, balance, train_holder}
use Rattle.rr_books.specs.State.{State, IsStateOf, cash_of, train_place_of}
use Rattle.rr_market.specs.Operations.Phases.{TrainHolders, phase}
use Rattle.rr_market.specs.Operations.Progress.{Progress, after, after_act, after_entry, after_first_round, after_next_round, after_step, beginning, follow, is_operating, progress, sheet_after, sheet_after_act, sheet_run}

-- after further entries, after one more, and before the first
pub follow-append : (book xs ys : Book) (p : Progress) → follow book p (xs ++ ys) ≡ follow (book ++ xs) (follow book p xs) ys
follow-append book [] ys p = ap (λ (b : Book). follow b p ys) (sym (append-nil book))
follow-append book (e ∷ es) ys p =
    follow-append (book ++ e ∷ []) es ys (after book p e)
    ∙ ap (λ (b : Book). follow b (follow (book ++ e ∷ []) (after book p e) es) ys) (append_assoc book (e ∷ []) es)

pub progress-append : (book more : Book) → progress (book ++ more) ≡ follow book (progress book) more
unfolding progress
progress-append book more = follow-append [] book more beginning

pub progress-push : (book : Book) (e : Entry) → progress (book ++ e ∷ []) ≡ after book (progress book) e
progress-push book e = progress-append book (e ∷ [])

pub progress-none : progress [] ≡ beginning
unfolding progress
progress-none = refl

-- the entries that follow on a book, the first of them taken apart
pub from_first : (book since : Book) (e : Entry) → progress (book ++ e ∷ since) ≡ follow (book ++ e ∷ []) (after book (progress book) e) since
from_first book since e = progress-append book (e ∷ since)

train_holder-of_state : (book : Book) (s : State) → IsStateOf book s → train_holder book ≡ train_place_of s
train_holder-of_state book s h = fun_ext (λ (t : Train). h.train_holders t)

-- what has come so far, by the tables of the book, stands for the book with the entry that was followed
pub stands_once : (book : Book) (e : Entry) (s : State) (old new : Progress) → new ≡ after_entry (phase (train_place_of s)) (cash_of s P.Bank) old e → IsStateOf book s → progress book ≡ old → progress (book ++ e ∷ []) ≡ new
stands_once book e s old new is h k =
    progress-push book e
    ∙ ap (λ (H : TrainHolders). after_entry (phase H) (balance book P.Bank) (progress book) e) (train_holder-of_state book s h)
    ∙ ap (λ (n : ℤ). after_entry (phase (train_place_of s)) n (progress book) e) (h.balances P.Bank)
    ∙ ap (λ (p : Progress). after_entry (phase (train_place_of s)) (cash_of s P.Bank) p e) k
    ∙ sym is

-- the sets and rounds that have begun grow by one at most
record GrowsByOne (old new : Progress) : Type 0 where
  sets : new.sets ≤ old.sets + 1
  round : new.round ≤ old.round + 1

same_counts : (p : Progress) → GrowsByOne p p
same_counts p = record { sets = omega arith; round = omega arith }

act_once : (act : Act) (p : Progress) → GrowsByOne p (after_act act p)
act_once (A.Lay c hex tile turn) p = record { sets = omega arith; round = omega arith }
act_once (A.Station c hex centre) p = record { sets = omega arith; round = omega arith }
act_once (A.Run c sheet) p = record { sets = omega arith; round = omega arith }
act_once (A.RunBest c sheet certificate) p = record { sets = omega arith; round = omega arith }
act_once (A.PayOut c) p = record { sets = omega arith; round = omega arith }
act_once (A.Hold c) p = record { sets = omega arith; round = omega arith }
act_once (A.End c) p = record { sets = omega arith; round = omega arith }
act_once (A.Bankrupt s) p = record { sets = omega arith; round = omega arith }
act_once _ p = same_counts p

round_once : (now : Kind) (p : Progress) (b : Bool) → GrowsByOne p (if b then after_next_round p else after_first_round now p)
round_once now p true = record { sets = omega arith; round = omega arith }
round_once now p false = record { sets = omega arith; round = omega arith }

step_once : (now : Kind) (marker : Marker) (p : Progress) → GrowsByOne p (after_step now marker p)
step_once now (M.Act act) p = act_once act p
step_once now M.Operating p = round_once now p (is_operating p.stage)
step_once now (M.Auction names) p = record { sets = omega arith; round = omega arith }
step_once now M.Stock p = record { sets = omega arith; round = omega arith }
step_once now (M.Float c) p = same_counts p

entry_once : (now : Kind) (bank : ℤ) (p : Progress) (e : Entry) → GrowsByOne p (after_entry now bank p e)
entry_once now bank p (E.Step marker) = step_once now marker p
entry_once now bank p (E.Pay from to amount) = record { sets = omega arith; round = omega arith }
entry_once now bank p _ = same_counts p

pub sets_by_one : (now : Kind) (bank : ℤ) (old new : Progress) (e : Entry) → new ≡ after_entry now bank old e → new.sets ≤ old.sets + 1
sets_by_one now bank old new e is =
    let same : new.sets ≡ (after_entry now bank old e).sets = ap (λ (p : Progress). p.sets) is in
    let once = (entry_once now bank old e).sets in
    omega arith

pub round_by_one : (now : Kind) (bank : ℤ) (old new : Progress) (e : Entry) → new ≡ after_entry now bank old e → new.round ≤ old.round + 1
round_by_one now bank old new e is =
    let same : new.round ≡ (after_entry now bank old e).round = ap (λ (p : Progress). p.round) is in
    let once = (entry_once now bank old e).round in
    omega arith

-- the trains ran in a turn exactly where there is the sheet of a run
run_by_act : (act : Act) (p : Progress) (ran : Option (List ℕ)) → p.has_run ≡ is_some ran → (after_act act p).has_run ≡ is_some (sheet_after_act act ran)
run_by_act (A.Run c sheet) p ran h = refl
run_by_act (A.RunBest c sheet certificate) p ran h = refl
run_by_act (A.End c) p ran h = refl
run_by_act (A.Lay c hex tile turn) p ran h = h
run_by_act (A.Station c hex centre) p ran h = h
run_by_act (A.PayOut c) p ran h = h
run_by_act (A.Hold c) p ran h = h
run_by_act (A.Bankrupt s) p ran h = h
run_by_act _ p ran h = h

run_by_round : (now : Kind) (p : Progress) (b : Bool) → (if b then after_next_round p else after_first_round now p).has_run ≡ false
run_by_round now p true = refl
run_by_round now p false = refl

run_by_entry : (now : Kind) (bank : ℤ) (p : Progress) (ran : Option (List ℕ)) (e : Entry) → p.has_run ≡ is_some ran → (after_entry now bank p e).has_run ≡ is_some (sheet_after ran e)
run_by_entry now bank p ran (E.Step (M.Act act)) h = run_by_act act p ran h
run_by_entry now bank p ran (E.Step M.Operating) h = run_by_round now p (is_operating p.stage)
run_by_entry now bank p ran (E.Step (M.Auction names)) h = h
run_by_entry now bank p ran (E.Step M.Stock) h = h
run_by_entry now bank p ran (E.Step (M.Float c)) h = h
run_by_entry now bank p ran (E.Pay from to amount) h = h
run_by_entry now bank p ran _ h = h

run_through : (book es : Book) (p : Progress) (ran : Option (List ℕ)) → p.has_run ≡ is_some ran → (follow book p es).has_run ≡ is_some (fold sheet_after ran es)
run_through book [] p ran h = h
run_through book (e ∷ es) p ran h = run_through (book ++ e ∷ []) es (after book p e) (sheet_after ran e) (run_by_entry (phase (train_holder book)) (balance book P.Bank) p ran e h)

pub has_run-shown : (book : Book) → (progress book).has_run ≡ is_some (sheet_run book)
unfolding progress sheet_run
has_run-shown book = run_through [] book beginning None refl

-- by the view of the book
pub has_run-by : (book : Book) (p : Progress) (ran : Bool) → ran ≡ p.has_run → progress book ≡ p → ran ≡ is_some (sheet_run book)
has_run-by book p ran is h = is ∙ ap (λ (x : Progress). x.has_run) (sym h) ∙ has_run-shown book
