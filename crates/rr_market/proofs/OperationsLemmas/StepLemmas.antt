-- The steps of a turn over a stretch of a book.
use Rattle.std.specs.Prelude.{◌≡◌, ◌≤◌, ℤ, true, false, [], ◌∷◌, ◌++◌}
use Rattle.std.specs.List.{list_any}
use Rattle.std.proofs.Common.{sym, ap, append_assoc, append-nil, arith}
use Rattle.std.proofs.lemmas.Bool.{false≢true, and_parts, eqb-true, leb-true, or_parts}
use Rattle.rr_roster.specs.declared.company.Kind.{Kind}
use Rattle.rr_books.specs.declared.parties.Party.TheVariants as P
use Rattle.rr_books.specs.declared.entries.Entry.{Entry}
use Rattle.rr_books.specs.declared.entries.Entry.TheVariants as E
use Rattle.rr_books.specs.declared.entries.Marker.TheVariants as M
use Rattle.rr_books.specs.declared.acts.Act.{Act}
use Rattle.rr_books.specs.declared.acts.Act.TheVariants as A
use Rattle.rr_books.specs.Book.{Book, balance, train_holder}
use Rattle.rr_market.specs.declared.operations.turn.TurnStep.{TurnStep}
use Rattle.rr_market.specs.declared.operations.turn.TurnStep.TheVariants as T
use Rattle.rr_market.specs.Operations.Phases.{phase}
use Rattle.rr_market.specs.Operations.Turn.{rank, takes}
use Rattle.rr_market.specs.Operations.Progress.{Progress, after, after_act, after_entry, progress}
use Rattle.rr_market.specs.Operations.Due.{begins_turn}
use Rattle.rr_market.specs.Operations.OperatingLaws.{StepsNeverGoBack, are_taken, is_taken}
use Rattle.rr_market.proofs.OperationsLemmas.ProgressLemmas.{progress-push}

at_most_last : (step : TurnStep) → rank step ≤ 4
at_most_last T.Lay = omega arith
at_most_last T.Station = omega arith
at_most_last T.Run = omega arith
at_most_last T.Pay = omega arith
at_most_last T.Train = omega arith

act_rises : (act : Act) (p : Progress) → begins_turn (E.Step (M.Act act)) ≡ false → takes p.step act ≡ true → rank p.step ≤ rank (after_act act p).step
act_rises (A.Lay c hex tile turn) p h t = let at = eqb-true (rank p.step) 0 t in omega arith
act_rises (A.Station c hex centre) p h t = let at = leb-true (rank p.step) 1 t in omega arith
act_rises (A.Run c sheet) p h t = let at = leb-true (rank p.step) 2 t in omega arith
act_rises (A.RunBest c sheet certificate) p h t = let at = leb-true (rank p.step) 2 t in omega arith
act_rises (A.PayOut c) p h t = at_most_last p.step
act_rises (A.Hold c) p h t = at_most_last p.step
act_rises (A.End c) p h t = absurd (false≢true (sym h))
act_rises (A.Bankrupt s) p h t = omega arith
act_rises _ p h t = omega arith

entry_rises : (now : Kind) (bank : ℤ) (p : Progress) (e : Entry) → begins_turn e ≡ false → is_taken p.step e ≡ true → rank p.step ≤ rank (after_entry now bank p e).step
entry_rises now bank p (E.Step (M.Act act)) h t = act_rises act p h t
entry_rises now bank p (E.Step M.Operating) h t = absurd (false≢true (sym h))
entry_rises now bank p (E.Step (M.Auction names)) h t = omega arith
entry_rises now bank p (E.Step M.Stock) h t = omega arith
entry_rises now bank p (E.Step (M.Float c)) h t = omega arith
entry_rises now bank p (E.Pay from to amount) h t = omega arith
entry_rises now bank p _ h t = omega arith

once_rises : (book : Book) (e : Entry) → begins_turn e ≡ false → is_taken (progress book).step e ≡ true → rank (progress book).step ≤ rank (progress (book ++ e ∷ [])).step
once_rises book e h t =
    let same : rank (progress (book ++ e ∷ [])).step ≡ rank (after book (progress book) e).step = ap (λ (p : Progress). rank p.step) (progress-push book e) in
    let rises = entry_rises (phase (train_holder book)) (balance book P.Bank) (progress book) e h t in
    omega arith

pub steps_rise : StepsNeverGoBack
steps_rise book [] h t =
    let same : rank (progress (book ++ [])).step ≡ rank (progress book).step = ap (λ (b : Book). rank (progress b).step) (append-nil book) in
    omega arith
steps_rise book (e ∷ es) h t =
    let none = or_parts (begins_turn e) (list_any begins_turn es) h in
    let taken = and_parts (is_taken (progress book).step e) (are_taken (book ++ e ∷ []) es) t in
    let first = once_rises book e none.0 taken.0 in
    let rest = steps_rise (book ++ e ∷ []) es none.1 taken.1 in
    let same : rank (progress ((book ++ e ∷ []) ++ es)).step ≡ rank (progress (book ++ e ∷ es)).step = ap (λ (b : Book). rank (progress b).step) (append_assoc book (e ∷ []) es) in
    omega arith
