-- Lawful acts leave the bids covered.
use Rattle.std.specs.Prelude.{◌≡◌, ℕ, ◌<◌, ◌≤◌, ℤ, pos, ◌≤ℤ◌, int_lt, Bool, true, false, not, nat_lt, ◌&&◌, List, [], ◌∷◌, ◌++◌, Option, None, Some, is_some, find, map, option_and_then, refl, unwrap_or, if◌then◌else◌}
use Rattle.std.specs.Option.{option_or}
use Rattle.std.proofs.Common.{sym, ◌∙◌, ap, subst, cond, arith, append_assoc, append-nil}
use Rattle.std.proofs.Math.Path.{fun_ext}
use Rattle.std.proofs.lemmas.Bool.{eqb-true, false≢true}
use Rattle.std.proofs.lemmas.Bool.Decides.{nat_tests}
use Rattle.std.proofs.lemmas.Int.{ints}
use Rattle.rr_roster.specs.declared.company.Private.{Private}
use Rattle.rr_roster.specs.declared.company.Corp.{Corp}
use Rattle.rr_roster.specs.Terms.{Terms}
use Rattle.rr_roster.specs.Chart.Chart as charts
use Rattle.rr_books.specs.declared.parties.Seat.{Seat}
use Rattle.rr_books.specs.declared.parties.Party.TheVariants as P
use Rattle.rr_books.specs.declared.certificates.Cert.{Cert}
use Rattle.rr_books.specs.declared.entries.Cell.{Cell}
use Rattle.rr_books.specs.declared.entries.Entry.TheVariants as E
use Rattle.rr_books.specs.declared.entries.Marker.TheVariants as M
use Rattle.rr_books.specs.declared.acts.Act.{Act}
use Rattle.rr_books.specs.declared.acts.Act.TheVariants as A
use Rattle.rr_books.specs.Book.{Book, balance, balance-push, balance_after, holder, holder-push, players}
use Rattle.rr_books.specs.Same.{same_seat}
use Rattle.rr_books.specs.Shares.{Holders, privates}
use Rattle.rr_desk.specs.Effects.{Effect, adds, in_turn}
use Rattle.rr_market.specs.Moves.{mark_at, par_marks}
use Rattle.rr_books.specs.declared.refusal.Refusal.{Refusal}
use Rattle.rr_books.specs.declared.refusal.Refusal.TheVariants as F
use Rattle.rr_rounds.specs.Bids.Bids.{Bids, Row, all_seats, bid_of, bids_on, first_before, first_behind, has_bid, leader, least_bid, next_bidder, raiser, sole_bidder, tied_up}
use Rattle.rr_desk.specs.Incomes.{dollars, pay_incomes_of, pays_income}
use Rattle.rr_auction.specs.Effects.{brings_incomes, entries_of, incomes_if, is_over, may_end, pass_of, purchase_of, said, sale, sale_at_bid, sets_par, settle, settled, settle_each, settles, stock_begins}
use Rattle.rr_auction.proofs.AllBids.{bid_on}
use Rattle.rr_rounds.specs.Bids.Progress.{Progress, after_act, progress, raise_due, raise_for}
use Rattle.rr_auction.specs.Rules.{Accounts, bid_verdict, bidder_due, due, due_in, free_cash, is_open, is_turn, pass_verdict, price, price_verdict, purchase_verdict, spending_verdict, takes_bids, verdict}
use Rattle.rr_auction.specs.SoundMoney.{AreLawful, with_acts}
use Rattle.rr_rounds.specs.Bids.Unsold.{cheapest, is_private, is_unsold}
use Rattle.rr_auction.proofs.Bidders.{bid_is_some, cheapest_unsold, sole_bids}
use Rattle.rr_auction.proofs.Covers.{IsCovered, IsCoveredBook, GoesOn, covered_moved, goes_by, goes_by_step, goes_further, goes_nowhere, goes_once, goes_then, nothing_paid}
use Rattle.rr_auction.proofs.CoveredBids.{covered_after_bid, covered_after_par, covered_after_pass, covered_left}
use Rattle.rr_auction.proofs.CoveredSales.{goes_by_private_income, goes_by_sale}
use Rattle.rr_auction.proofs.AllBids.{split}
use Rattle.rr_rounds.specs.Bids.ProgressLaws.{progress-append}

-- effects in turn that each go on
goes_each : {X : Type 0} (n : ℕ) (f : X → Effect) → ((x : X) (book : Book) → IsCoveredBook n book → GoesOn n book (f x book)) → (xs : List X) (book : Book) → IsCoveredBook n book → GoesOn n book (in_turn (map f xs) book)
goes_each n f h [] book covered = goes_nowhere n book covered
goes_each n f h (x ∷ xs) book covered = goes_then n (f x) (map f xs) book (h x book covered) (λ later. goes_each n f h xs (book ++ f x book) later)

-- who has a bid sits at the table
bidder_there : (n : ℕ) (H : Holders) (money : Accounts) (a : Progress) (p : Private) (s : Seat) → IsCovered n H money a → has_bid (bids_on a.bids p) s ≡ true → s.0 < n
bidder_there n H money a p s h bids = by_test (nat_lt s.0 n) refl
  where
    by_test : (b : Bool) → nat_lt s.0 n ≡ b → s.0 < n
    by_test true e = grind (arith, nat_tests)
    by_test false e =
        let out : n ≤ s.0 = grind (arith, nat_tests) in
        let none = h.bidders p s out in
        let some : 0 < bid_of a.bids p s = bid_is_some (bids_on a.bids p) s bids in
        absurd (omega arith)

-- a bidder can pay its bid beside its other bids
bidder_pays : (n : ℕ) (H : Holders) (money : Accounts) (a : Progress) (p : Private) (s : Seat) → IsCovered n H money a → is_unsold H p ≡ true → pos (bid_of a.bids p s) ≤ℤ free_cash money H a s p
bidder_pays n H money a p s h unsold =
    let parts = split H a.bids s p in
    let on : bid_on H a.bids s p ≡ bid_of a.bids p s = ap (λ (u : Bool). cond u (bid_of a.bids p s) 0) unsold in
    let had = h.seats s in
    omega (arith, ints)

-- a private is settled, or not
goes_by_settled_private : (n : ℕ) (p : Private) (book : Book) → IsCoveredBook n book → GoesOn n book (settles p book)
unfolding settles
goes_by_settled_private n p book h = by_cheapest (is_private p (cheapest (holder book))) refl
  where
    by_sole : (o : Option Seat) → is_unsold (holder book) p ≡ true → sole_bidder (bids_on (progress book).bids p) ≡ o → GoesOn n book (sale_at_bid p (bids_on (progress book).bids p) o book)
    by_sole None unsold e = goes_nowhere n book h
    by_sole (Some s) unsold e =
        let seated = bidder_there n (holder book) (balance book) (progress book) p s h.covered (sole_bids (bids_on (progress book).bids p) s e) in
        goes_by_sale n book s p (bid_of (progress book).bids p s) h seated (bidder_pays n (holder book) (balance book) (progress book) p s h.covered unsold)

    by_cheapest : (b : Bool) → is_private p (cheapest (holder book)) ≡ b → GoesOn n book (settled p b (bids_on (progress book).bids p) book)
    by_cheapest false e = goes_nowhere n book h
    by_cheapest true e = by_sole (sole_bidder (bids_on (progress book).bids p)) (cheapest_unsold (holder book) p e) refl

goes_by_end : (n : ℕ) (book : Book) → IsCoveredBook n book → GoesOn n book (may_end book)
unfolding may_end
goes_by_end n book h = by_test (is_over (due book))
  where
    by_test : (b : Bool) → GoesOn n book (stock_begins b book)
    by_test true = goes_by_step n book M.Stock h h.covered
    by_test false = goes_nowhere n book h

-- what is settled behind a command
goes_by_settling : (n : ℕ) (book : Book) → IsCoveredBook n book → GoesOn n book (settle book)
unfolding settle settle_each
goes_by_settling n book h =
    goes_then n (settle_each privates) (may_end ∷ []) book (goes_each n settles (goes_by_settled_private n) privates book h)
    (λ later. goes_once n may_end _ (goes_by_end n _ later))

-- the incomes, if a pass brings them
goes_by_incomes : (n : ℕ) (roster : Terms) (brings : Bool) (book : Book) → IsCoveredBook n book → GoesOn n book (incomes_if roster brings book)
unfolding pay_incomes_of
goes_by_incomes n roster true book h = goes_each n (pays_income roster) (goes_by_private_income n roster) privates book h
goes_by_incomes n roster false book h = goes_nowhere n book h

-- a test in a chain that refuses nothing
passed : (b : Bool) (fault : Refusal) (others : Option Refusal) → (if b then Some fault else others) ≡ None → (b ≡ false) × (others ≡ None)
passed true fault others e = absurd (cc)
passed false fault others e = (refl, e)

not_refused : (b : Bool) → not b ≡ false → b ≡ true
not_refused true e = refl
not_refused false e = absurd (false≢true (sym e))

not_below : (x y : ℤ) → int_lt x y ≡ false → y ≤ℤ x
not_below x y e = grind (arith, ints)

-- a seat that may spend an amount can pay it beside its other bids
can_spend : (money : Accounts) (H : Holders) (a : Progress) (s : Seat) (p : Private) (m : ℕ) → spending_verdict money H a s p m ≡ None → pos m ≤ℤ free_cash money H a s p
can_spend money H a s p m e =
    let had = passed (int_lt (money (P.Seat s)) (pos m)) F.TooLittleCash _ e in
    let free = passed (int_lt (free_cash money H a s p) (pos m)) F.CashTiedUp None had.1 in
    not_below (free_cash money H a s p) (pos m) free.0

-- the seat that is named sits at the table, where it is that of the next turn
named_there : (n : ℕ) (s t : Seat) → same_seat s t ≡ true → t.0 < n → s.0 < n
named_there n s t same there = let e = eqb-true s.0 t.0 same in omega arith

-- who is found for a bid has one
found_bids : (row : Row) (test : Seat → Bool) (seats : List Seat) (t : Seat) → find (λ x. test x && has_bid row x) seats ≡ Some t → has_bid row t ≡ true
found_bids row test [] t e = absurd (cc)
found_bids row test (s ∷ seats) t e = by_test (test s) (has_bid row s) refl (found_bids row test seats t) e
  where
    by_test : (b d : Bool) → has_bid row s ≡ d → (find (λ x. test x && has_bid row x) seats ≡ Some t → has_bid row t ≡ true) → cond (b && d) (Some s) (find (λ x. test x && has_bid row x) seats) ≡ Some t → has_bid row t ≡ true
    by_test true true bids later found = let same : s ≡ t = cc in ap (has_bid row) (sym same) ∙ bids
    by_test true false bids later found = later found
    by_test false d bids later found = later found

raiser_bids : (row : Row) (t : Seat) → raiser row ≡ Some t → has_bid row t ≡ true
unfolding first_behind first_before
raiser_bids row t e = by_leader (leader row) e
  where
    by_order : (s : Seat) (o : Option Seat) → first_behind row s ≡ o → option_or o (first_before row s) ≡ Some t → has_bid row t ≡ true
    by_order s None none found = found_bids row (λ x. nat_lt x.0 s.0) all_seats t found
    by_order s (Some next) behind found = found_bids row (λ x. nat_lt s.0 x.0) all_seats t (behind ∙ found)

    by_leader : (o : Option Seat) → option_and_then (next_bidder row) o ≡ Some t → has_bid row t ≡ true
    by_leader None found = absurd (cc)
    by_leader (Some s) found = by_order s (first_behind row s) refl found

-- the seat that is to bid or pass sits at the table
due_there : (n : ℕ) (H : Holders) (money : Accounts) (a : Progress) → IsCovered n H money a → (bidder_due H a).0 < n
due_there n H money a h = by_sale (cheapest H)
  where
    by_raiser : (p : Private) (o : Option Seat) → raiser (bids_on a.bids p) ≡ o → (unwrap_or o a.turn).0 < n
    by_raiser p None e = h.turn
    by_raiser p (Some t) e = bidder_there n H money a p t h (raiser_bids (bids_on a.bids p) t e)

    by_sale : (o : Option Private) → (unwrap_or (raise_for a.bids o) a.turn).0 < n
    by_sale None = h.turn
    by_sale (Some p) = by_raiser p (raiser (bids_on a.bids p)) refl

-- a command is taken down
goes_by_act : (n : ℕ) (book : Book) (act : Act) → IsCoveredBook n book → IsCovered n (holder book) (balance book) (after_act n (holder book) (progress book) act) → GoesOn n book (E.Step (M.Act act) ∷ [])
goes_by_act n book act h covered =
    let Covered : ℕ → Type 0 = λ m. IsCovered n (holder book) (balance book) (after_act m (holder book) (progress book) act) in
    goes_by_step n book (M.Act act) h (subst Covered (sym h.players) covered)

-- the sale and what is settled, once a purchase is taken down
goes_by_purchase : (n : ℕ) (roster : Terms) (book : Book) (s : Seat) (p : Private) → IsCoveredBook n book → s.0 < n → pos (price roster (progress book).falls p) ≤ℤ free_cash (balance book) (holder book) (progress book) s p → GoesOn n book (purchase_of roster s (progress book).falls (Some p) book)
goes_by_purchase n roster book s p h seated enough =
    let act = A.BuyPrivate s in
    let e = E.Step (M.Act act) in
    let said_book = book ++ e ∷ [] in
    let a = progress book in
    let m = price roster a.falls p in
    let buy = sale s p (dollars m) in
    let held : holder said_book ≡ holder book = fun_ext (λ (c : Cert). holder-push book e c) in
    let bids : (progress said_book).bids ≡ a.bids = ap (λ (x : Progress). x.bids) (progress-append book (e ∷ [])) in
    let tied : tied_up (holder said_book) (progress said_book).bids s p ≡ tied_up (holder book) a.bids s p =
    ap (λ (J : Holders). tied_up J (progress said_book).bids s p) held ∙ ap (λ (b : Bids). tied_up (holder book) b s p) bids in
    let cash : balance said_book (P.Seat s) ≡ balance book (P.Seat s) = balance-push book e (P.Seat s) ∙ nothing_paid (balance book (P.Seat s)) in
    let can : pos m ≤ℤ free_cash (balance said_book) (holder said_book) (progress said_book) s p = omega (arith, ints) in
    goes_then n (adds e) (buy ∷ settle ∷ []) book
    (goes_by_act n book act h (covered_left n (holder book) (balance book) a (after_act n (holder book) a act) s seated refl refl h.covered))
    (λ taken. goes_then n buy (settle ∷ []) said_book (goes_by_sale n said_book s p m taken seated can)
    (λ sold. goes_once n settle _ (goes_by_settling n _ sold)))

-- a purchase
goes_by_buying : (n : ℕ) (roster : Terms) (book : Book) (s : Seat) → IsCoveredBook n book → purchase_verdict roster (balance book) (holder book) (progress book) s ≡ None → GoesOn n book (purchase_of roster s (progress book).falls (cheapest (holder book)) book)
goes_by_buying n roster book s h lawful =
    let a = progress book in
    let H = holder book in
    let turn = passed (not (is_turn (due_in H a))) F.WrongStep _ lawful in
    let seat = passed (not (same_seat s a.turn)) F.NotYourTurn _ turn.1 in
    by_sale (cheapest H) (named_there n s a.turn (not_refused (same_seat s a.turn) seat.0) h.covered.turn) seat.1
  where
    by_sale : (o : Option Private) → s.0 < n → price_verdict roster (balance book) (holder book) (progress book) s o ≡ None → GoesOn n book (purchase_of roster s (progress book).falls o book)
    by_sale None seated e = absurd (cc)
    by_sale (Some p) seated e =
        goes_by_purchase n roster book s p h seated (can_spend (balance book) (holder book) (progress book) s p (price roster (progress book).falls p) e)

-- a command that is taken down, and what it settles
goes_by_saying : (n : ℕ) (book : Book) (act : Act) → IsCoveredBook n book → IsCovered n (holder book) (balance book) (after_act n (holder book) (progress book) act) → GoesOn n book (said act book)
goes_by_saying n book act h covered =
    goes_then n (adds (E.Step (M.Act act))) (settle ∷ []) book (goes_by_act n book act h covered)
    (λ taken. goes_once n settle _ (goes_by_settling n _ taken))

-- a bid
goes_by_bidding : (n : ℕ) (roster : Terms) (book : Book) (s : Seat) (p : Private) (m : ℕ) → IsCoveredBook n book → bid_verdict roster (balance book) (holder book) (progress book) s p m ≡ None → GoesOn n book (said (A.Bid s p m) book)
goes_by_bidding n roster book s p m h lawful =
    let a = progress book in
    let H = holder book in
    let taken = passed (not (takes_bids roster H a)) F.WrongStep _ lawful in
    let seat = passed (not (same_seat s (bidder_due H a))) F.NotYourTurn _ taken.1 in
    let open_private = passed (not (is_open H a p)) F.NotForSale _ seat.1 in
    let enough = passed (nat_lt m (least_bid roster a.bids p)) (F.BidTooLow (least_bid roster a.bids p)) _ open_private.1 in
    let seated = named_there n s (bidder_due H a) (not_refused (same_seat s (bidder_due H a)) seat.0) (due_there n H (balance book) a h.covered) in
    goes_by_saying n book (A.Bid s p m) h
    (covered_after_bid n H (balance book) a (is_some (raise_due H a)) s p m h.covered seated (can_spend (balance book) H a s p m enough.1))

-- a pass
goes_by_passing : (n : ℕ) (roster : Terms) (book : Book) (s : Seat) (brings : Bool) → IsCoveredBook n book → pass_verdict roster (holder book) (progress book) s ≡ None → GoesOn n book (pass_of roster s brings book)
goes_by_passing n roster book s brings h lawful =
    let a = progress book in
    let H = holder book in
    let taken = passed (not (takes_bids roster H a)) F.WrongStep _ lawful in
    let seat = passed (not (same_seat s (bidder_due H a))) F.NotYourTurn None taken.1 in
    let seated = named_there n s (bidder_due H a) (not_refused (same_seat s (bidder_due H a)) seat.0) (due_there n H (balance book) a h.covered) in
    goes_then n (adds (E.Step (M.Act (A.Pass s)))) (settle ∷ incomes_if roster brings ∷ []) book
    (goes_by_act n book (A.Pass s) h (covered_after_pass n H (balance book) a (is_some (raise_due H a)) (cheapest H) s h.covered seated))
    (λ said. goes_then n settle (incomes_if roster brings ∷ []) _ (goes_by_settling n _ said)
    (λ settled. goes_once n (incomes_if roster brings) _ (goes_by_incomes n roster brings _ settled)))

-- the mark of a token
goes_by_mark : (n : ℕ) (book : Book) (c : Corp) (cell : Option Cell) → IsCoveredBook n book → GoesOn n book (mark_at c cell)
goes_by_mark n book c None h = goes_nowhere n book h
goes_by_mark n book c (Some cell) h =
    goes_by n book (E.Mark c cell) h refl refl refl
    (covered_moved n (holder book) (holder book) (balance book) (λ p. balance_after p (balance book p) (E.Mark c cell)) _ _ (λ d. refl) (λ p. nothing_paid _) refl h.covered)

-- a par
goes_by_par : (n : ℕ) (rows : List charts.Row) (book : Book) (s : Seat) (c : Corp) (m : ℕ) → IsCoveredBook n book → GoesOn n book (sets_par rows s c m book)
goes_by_par n rows book s c m h =
    let act = A.Par s c m in
    let mark = par_marks rows c m in
    goes_then n (adds (E.Step (M.Act act))) (mark ∷ settle ∷ []) book
    (goes_by_act n book act h (covered_after_par n (holder book) (balance book) (progress book) c h.covered))
    (λ taken. goes_then n mark (settle ∷ []) _ (goes_by_mark n _ c _ taken)
    (λ marked. goes_once n settle _ (goes_by_settling n _ marked)))

-- whatever act the rules don't refuse
pub goes_by_lawful : (n : ℕ) (roster : Terms) (rows : List charts.Row) (book : Book) (act : Act) → IsCoveredBook n book → verdict roster rows book act ≡ None → GoesOn n book (entries_of roster rows book act)
goes_by_lawful n roster rows book (A.BuyPrivate s) h lawful = goes_by_buying n roster book s h lawful
goes_by_lawful n roster rows book (A.Bid s p m) h lawful = goes_by_bidding n roster book s p m h lawful
goes_by_lawful n roster rows book (A.Pass s) h lawful = goes_by_passing n roster book s (brings_incomes (players book) (holder book) (progress book)) h lawful
goes_by_lawful n roster rows book (A.Par s c m) h lawful = goes_by_par n rows book s c m h
goes_by_lawful n roster rows book _ h lawful = absurd (cc)

-- the entries that lawful acts add, one after another
pub goes_by_acts : (n : ℕ) (roster : Terms) (rows : List charts.Row) (acts : List Act) (book : Book) → IsCoveredBook n book → AreLawful roster rows book acts → (more : Book) × (with_acts roster rows book acts ≡ book ++ more) × GoesOn n book more
goes_by_acts n roster rows [] book h lawful = ([], sym (append-nil book), goes_nowhere n book h)
goes_by_acts n roster rows (act ∷ acts) book h lawful =
    let es = entries_of roster rows book act in
    let first = goes_by_lawful n roster rows book act h lawful.0 in
    let others = goes_by_acts n roster rows acts (book ++ es) first.later lawful.1 in
    (es ++ others.0, others.1 ∙ append_assoc book es others.0, goes_further n book es others.0 first others.2)
