-- The book as a turn began, and which corporation is due by the view.
use Rattle.std.specs.Prelude.{◌≡◌, Bool, true, false, ◌||◌, List, [], ◌∷◌, ◌++◌, None, if◌then◌else◌, refl}
use Rattle.std.specs.List.{list_any}
use Rattle.std.proofs.Common.{sym, ◌∙◌, ap, subst}
use Rattle.std.proofs.lemmas.Bool.{false≢true}
use Rattle.std.proofs.lemmas.List.Folds.{list_any-append}
use Rattle.rr_roster.specs.declared.company.Corp.{Corp}
use Rattle.rr_roster.specs.Chart.Chart.{Row}
use Rattle.rr_books.specs.declared.parties.Place.TheVariants as L
use Rattle.rr_books.specs.declared.certificates.Cert.TheVariants as C
use Rattle.rr_books.specs.declared.entries.Entry.{Entry}
use Rattle.rr_books.specs.declared.entries.Entry.TheVariants as E
use Rattle.rr_books.specs.declared.entries.Marker.TheVariants as M
use Rattle.rr_books.specs.declared.acts.Act.{Act}
use Rattle.rr_books.specs.declared.acts.Act.TheVariants as A
use Rattle.rr_books.specs.Book.{Book}
use Rattle.rr_market.specs.MarkLaws.{is_mark}
use Rattle.rr_market.specs.Order.{operating_order}
use Rattle.rr_market.specs.OrderLaws.{order-shown}
use Rattle.rr_market.specs.State.{State as Tokens, IsMarketOf}
use Rattle.rr_market.specs.StateLaws.{stays}
use Rattle.rr_rounds.specs.Round.{IsRoundOf, Marks, Round}
use Rattle.rr_rounds.specs.Round as stock
use Rattle.rr_rounds.specs.RoundLaws.{progress-push}
use Rattle.rr_market.specs.Operations.Progress.{Progress, is_operating}
use Rattle.rr_market.specs.Operations.Due.{IsOperationsOf, OnRounds, as_turn_began, begins_turn, due, due_in, first_waiting}

-- no turn began
pub none_began : (book : Book) → list_any begins_turn book ≡ false → as_turn_began book ≡ []
unfolding as_turn_began
none_began [] h = refl
none_began (e ∷ es) h = ap (λ (b : Bool). if b then e ∷ as_turn_began es else []) h

at_end : (b : Bool) (e : Entry) → (if b || false then e ∷ [] else []) ≡ (if b then e ∷ [] else [])
at_end true e = refl
at_end false e = refl

by_tests : (first later last : Bool) (x : Entry) (long short : Book) → (if first || (later || (last || false)) then x ∷ (if last then long else short) else []) ≡ (if last then x ∷ long else if first || later then x ∷ short else [])
by_tests true later true x long short = refl
by_tests true later false x long short = refl
by_tests false true true x long short = refl
by_tests false true false x long short = refl
by_tests false false true x long short = refl
by_tests false false false x long short = refl

-- an entry more begins a turn, or leaves the last one
pub as_turn_began-push : (book : Book) (e : Entry) → as_turn_began (book ++ e ∷ []) ≡ (if begins_turn e then book ++ e ∷ [] else as_turn_began book)
unfolding as_turn_began
as_turn_began-push [] e = at_end (begins_turn e) e
as_turn_began-push (x ∷ xs) e =
    ap (λ (b : Bool). if begins_turn x || b then x ∷ as_turn_began (xs ++ e ∷ []) else []) (list_any-append begins_turn xs (e ∷ []))
    ∙ ap (λ (es : Book). if begins_turn x || (list_any begins_turn xs || (begins_turn e || false)) then x ∷ es else []) (as_turn_began-push xs e)
    ∙ by_tests (begins_turn x) (list_any begins_turn xs) (begins_turn e) x (xs ++ e ∷ []) (as_turn_began xs)

-- what begins a turn marks no token
no_mark : (e : Entry) → begins_turn e ≡ true → is_mark e ≡ false
no_mark (E.Mark corp cell) t = absurd (false≢true t)
no_mark (E.Step marker) t = refl
no_mark _ t = refl

-- the tokens as the turn began stand for the book with an entry more
pub market_once : (book : Book) (e : Entry) (now old new : Tokens) → new ≡ (if begins_turn e then now else old) → IsMarketOf book now → IsMarketOf (as_turn_began book) old → IsMarketOf (as_turn_began (book ++ e ∷ [])) new
market_once book e now old new is h k =
    subst (λ (s : Tokens). IsMarketOf (as_turn_began (book ++ e ∷ [])) s) (sym is)
    (subst (λ (b : Book). IsMarketOf b (if begins_turn e then now else old)) (sym (as_turn_began-push book e)) (by_test (begins_turn e) refl))
  where
    by_test : (b : Bool) → begins_turn e ≡ b → IsMarketOf (if b then book ++ e ∷ [] else as_turn_began book) (if b then now else old)
    by_test true t = stays book e now (no_mark e t) h
    by_test false t = k

floated_by_act : (under_way : Bool) (act : Act) (r : Round) → (if under_way then stock.after_act act r else r).floated ≡ r.floated
floated_by_act false act r = refl
floated_by_act true (A.Par s c price) r = refl
floated_by_act true (A.BuyShare s c source) r = refl
floated_by_act true (A.Sell s c n) r = refl
floated_by_act true (A.Done s) r = refl
floated_by_act true _ r = refl

-- what begins a turn floats nobody
floated_kept : (r : Round) (e : Entry) → begins_turn e ≡ true → (stock.after r e).floated ≡ r.floated
floated_kept r (E.Step (M.Act act)) t = floated_by_act r.under_way act r
floated_kept r (E.Step M.Operating) t = refl
floated_kept r (E.Step M.Stock) t = refl
floated_kept r (E.Step (M.Auction names)) t = refl
floated_kept r (E.Step (M.Float c)) t = absurd (false≢true t)
floated_kept r (E.Move (C.Private p) (L.Seat s)) t = refl
floated_kept r _ t = refl

-- who had floated as the turn began, by the stock rounds then
pub floated_once : (book : Book) (e : Entry) (now old new : Round) → new ≡ (if begins_turn e then now else old) → IsRoundOf book now → (stock.progress (as_turn_began book)).floated ≡ old.floated → (stock.progress (as_turn_began (book ++ e ∷ []))).floated ≡ new.floated
floated_once book e now old new is h k =
    ap (λ (b : Book). (stock.progress b).floated) (as_turn_began-push book e)
    ∙ by_test (begins_turn e) refl
    ∙ ap (λ (r : Round). r.floated) (sym is)
  where
    by_test : (b : Bool) → begins_turn e ≡ b → (stock.progress (if b then book ++ e ∷ [] else as_turn_began book)).floated ≡ (if b then now else old).floated
    by_test true t = ap (λ (r : Round). r.floated) (progress-push book e) ∙ floated_kept (stock.progress book) e t ∙ ap (λ (r : Round). r.floated) h
    by_test false t = k

-- the corporation due is the one by the view
pub due-shown : (rows : List Row) (book : Book) (o : OnRounds) → IsOperationsOf book o → due_in rows o ≡ due rows book
unfolding due
due-shown rows book o h =
    ap (λ (cs : List Corp). if is_operating o.progress.stage then first_waiting o.stock.floated o.progress.turns cs else None) (order-shown rows (as_turn_began book) o.market h.market)
    ∙ ap (λ (marks : Marks). if is_operating o.progress.stage then first_waiting marks o.progress.turns (operating_order rows (as_turn_began book)) else None) (sym h.floated)
    ∙ ap (λ (p : Progress). if is_operating p.stage then first_waiting (stock.progress (as_turn_began book)).floated p.turns (operating_order rows (as_turn_began book)) else None) (sym h.progress)
