-- The corporation due stays the same.
use Rattle.std.specs.Prelude.{◌≡◌, ℤ, Bool, false, List, [], ◌∷◌, ◌++◌, Option, None, if◌then◌else◌, refl}
use Rattle.std.specs.List.{list_any}
use Rattle.std.proofs.Common.{sym, ◌∙◌, ap, append_assoc, append-nil}
use Rattle.std.proofs.lemmas.Bool.{false≢true, or_parts}
use Rattle.rr_roster.specs.declared.company.Corp.{Corp}
use Rattle.rr_roster.specs.declared.company.Kind.{Kind}
use Rattle.rr_roster.specs.Chart.Chart.{Row}
use Rattle.rr_books.specs.declared.parties.Party.TheVariants as P
use Rattle.rr_books.specs.declared.entries.Entry.{Entry}
use Rattle.rr_books.specs.declared.entries.Entry.TheVariants as E
use Rattle.rr_books.specs.declared.entries.Marker.TheVariants as M
use Rattle.rr_books.specs.declared.acts.Act.{Act}
use Rattle.rr_books.specs.declared.acts.Act.TheVariants as A
use Rattle.rr_books.specs.Book.{Book, balance, train_holder}
use Rattle.rr_market.specs.Order.{operating_order}
use Rattle.rr_rounds.specs.Round.{Marks}
use Rattle.rr_rounds.specs.Round as stock
use Rattle.rr_market.specs.declared.operations.turn.Stage.{Stage}
use Rattle.rr_market.specs.Operations.Phases.{phase}
use Rattle.rr_market.specs.Operations.Progress.{Progress, after_act, after_entry, is_operating, progress}
use Rattle.rr_market.specs.Operations.Due.{as_turn_began, begins_turn, due, first_waiting}
use Rattle.rr_market.specs.Operations.OperatingLaws.{DueStays, ends_set}
use Rattle.rr_market.proofs.OperationsLemmas.ProgressLemmas.{progress-push}
use Rattle.rr_market.proofs.OperationsLemmas.DueLemmas.{as_turn_began-push}

-- what tells the corporation due
abbrev due_by : List Row → Stage → Marks → Book → Option Corp
due_by rows stage turns began =
    if is_operating stage then first_waiting (stock.progress began).floated turns (operating_order rows began) else None

-- an entry leaves the stage and the turns as they are
record IsStill (old new : Progress) : Type 0 where
  stage : new.stage ≡ old.stage
  turns : new.turns ≡ old.turns

still : (p : Progress) → IsStill p p
still p = record { stage = refl; turns = refl }

act_still : (act : Act) (p : Progress) → begins_turn (E.Step (M.Act act)) ≡ false → IsStill p (after_act act p)
act_still (A.Lay c hex tile turn) p h = record { stage = refl; turns = refl }
act_still (A.Station c hex centre) p h = record { stage = refl; turns = refl }
act_still (A.Run c sheet) p h = record { stage = refl; turns = refl }
act_still (A.RunBest c sheet certificate) p h = record { stage = refl; turns = refl }
act_still (A.PayOut c) p h = record { stage = refl; turns = refl }
act_still (A.Hold c) p h = record { stage = refl; turns = refl }
act_still (A.End c) p h = absurd (false≢true (sym h))
act_still (A.Bankrupt s) p h = record { stage = refl; turns = refl }
act_still _ p h = still p

entry_still : (now : Kind) (bank : ℤ) (p : Progress) (e : Entry) → begins_turn e ≡ false → ends_set e ≡ false → IsStill p (after_entry now bank p e)
entry_still now bank p (E.Step (M.Act act)) h k = act_still act p h
entry_still now bank p (E.Step M.Operating) h k = absurd (false≢true (sym h))
entry_still now bank p (E.Step (M.Auction names)) h k = absurd (false≢true (sym k))
entry_still now bank p (E.Step M.Stock) h k = absurd (false≢true (sym k))
entry_still now bank p (E.Step (M.Float c)) h k = still p
entry_still now bank p (E.Pay from to amount) h k = record { stage = refl; turns = refl }
entry_still now bank p _ h k = still p

stays_once : (rows : List Row) (book : Book) (e : Entry) → begins_turn e ≡ false → ends_set e ≡ false → due rows (book ++ e ∷ []) ≡ due rows book
unfolding due
stays_once rows book e b s =
    let more = book ++ e ∷ [] in
    let kept = entry_still (phase (train_holder book)) (balance book P.Bank) (progress book) e b s in
    let stage : (progress more).stage ≡ (progress book).stage = ap (λ (p : Progress). p.stage) (progress-push book e) ∙ kept.stage in
    let turns : (progress more).turns ≡ (progress book).turns = ap (λ (p : Progress). p.turns) (progress-push book e) ∙ kept.turns in
    let began : as_turn_began more ≡ as_turn_began book = as_turn_began-push book e ∙ ap (λ (x : Bool). if x then more else as_turn_began book) b in
    ap (λ (x : Stage). due_by rows x (progress more).turns (as_turn_began more)) stage
    ∙ ap (λ (x : Marks). due_by rows (progress book).stage x (as_turn_began more)) turns
    ∙ ap (λ (x : Book). due_by rows (progress book).stage (progress book).turns x) began

pub due_stays : DueStays
due_stays rows book [] b s = ap (λ (x : Book). due rows x) (append-nil book)
due_stays rows book (e ∷ es) b s =
    let turn = or_parts (begins_turn e) (list_any begins_turn es) b in
    let set = or_parts (ends_set e) (list_any ends_set es) s in
    ap (λ (x : Book). due rows x) (sym (append_assoc book (e ∷ []) es))
    ∙ due_stays rows (book ++ e ∷ []) es turn.1 set.1
    ∙ stays_once rows book e turn.0 set.0
