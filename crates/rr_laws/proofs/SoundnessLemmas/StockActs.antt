-- Lawful commands of a stock round leave a table solvent.
use Rattle.std.specs.Prelude.{◌≡◌, ℕ, ◌*◌, ◌<◌, ℤ, pos, ◌≤ℤ◌, int_lt, Bool, true, false, not, List, [], ◌∷◌, Option, None, Some, map, option_and_then, option_map, refl, if◌then◌else◌}
use Rattle.std.specs.Option.{option_or}
use Rattle.std.proofs.Common.{sym, arith}
use Rattle.std.proofs.lemmas.Bool.{eqb-true, false≢true, lt-ltb}
use Rattle.std.proofs.lemmas.Int.{ints}
use Rattle.rr_roster.specs.declared.company.Private.{Private}
use Rattle.rr_roster.specs.declared.company.Corp.{Corp}
use Rattle.rr_roster.specs.Chart.Chart.{Row, par_place}
use Rattle.rr_books.specs.declared.parties.Seat.{Seat}
use Rattle.rr_books.specs.declared.parties.Party.TheVariants as P
use Rattle.rr_books.specs.declared.parties.Place.TheVariants as L
use Rattle.rr_books.specs.declared.certificates.Cert.TheVariants as C
use Rattle.rr_books.specs.declared.entries.Entry.TheVariants as E
use Rattle.rr_books.specs.declared.entries.Marker.TheVariants as M
use Rattle.rr_books.specs.declared.acts.Act.{Act}
use Rattle.rr_books.specs.declared.acts.Act.TheVariants as A
use Rattle.rr_roster.specs.declared.sources.ShareSource.{ShareSource}
use Rattle.rr_books.specs.Book.{Book, holder, players}
use Rattle.rr_books.specs.Same.{same_seat}
use Rattle.rr_desk.specs.Effects.{adds, in_turn, moves_lowest_share}
use Rattle.rr_desk.specs.Incomes.{dollars}
use Rattle.rr_shares.specs.Effects.{float_if_due, sale_shares}
use Rattle.rr_market.specs.Marks.{mark_of}
use Rattle.rr_market.specs.Moves.{cell_above, cell_after_sale, cell_of, par_marks, sale_marks, sold_out_marks}
use Rattle.rr_market.specs.Order.{operating_order}
use Rattle.rr_rounds.specs.Round.{ends_round, has_floated, progress}
use Rattle.rr_books.specs.declared.refusal.Refusal.TheVariants as F
use Rattle.rr_stock.specs.Rules as rules
use Rattle.rr_stock.specs.Rules.{is_short, place_of_source, share_price, turn_verdict, verdict}
use Rattle.rr_stock.specs.Effects.{buys_share, ends_if, ends_stock_round, ends_turn, entries_of, gets_share, gives_up_private, is_sold_out, pays_bank, pays_seller, proceeds, rises, rises_among, rises_if_sold_out, says, sells, sets_par, settles_corporation, settles_in, swaps, takes_presidency}
use Rattle.rr_stock.specs.Situation.{Situation, situation_of}
use Rattle.rr_laws.specs.Soundness.Sound.{IsSolvent}
use Rattle.rr_laws.proofs.SoundnessLemmas.Turns.{seated}
use Rattle.rr_laws.proofs.SoundnessLemmas.Going.{GoesOn, Keeps, Settles, can_pay_debt, debt_of, keeps_move, keeps_none, keeps_paid, keeps_step, keeps_then, keeps_three, keeps_two, no_debt, settles_debt, settles_one, settles_then, without_debt}
use Rattle.rr_laws.proofs.SoundnessLemmas.Corporations.{keeps_float, keeps_lowest, keeps_mark_at, keeps_sale, keeps_settled}

says_kept : (n : ℕ) (act : Act) → Keeps n (says act)
says_kept n act = keeps_step n (M.Act act)

seller_kept : (n : ℕ) (rows : List Row) (s : Seat) (c : Corp) (k amount : ℕ) → s.0 < n → Keeps n (pays_seller rows s c k amount)
unfolding pays_seller
seller_kept n rows s c k amount at =
    keeps_two n (adds (E.Pay P.Bank (P.Seat s) (dollars amount))) (sale_marks rows k c) (keeps_paid n (P.Seat s) amount (lt-ltb s.0 n at))
    (λ o book h. keeps_mark_at n c (option_and_then (cell_after_sale rows k) (mark_of book c)) o book h)

sale_kept : (n : ℕ) → 0 < n → (rows : List Row) (t : Situation) (s : Seat) (c : Corp) (k : ℕ) → s.0 < n → Keeps n (sells rows t s c k)
unfolding sells
sale_kept n some rows t s c k at =
    keeps_three n (says (A.Sell s c k)) (sale_shares c s k) (pays_seller rows s c k (proceeds t c k)) (says_kept n (A.Sell s c k)) (keeps_sale n some c s k) (seller_kept n rows s c k (proceeds t c k) at)

settled_kept : (n : ℕ) → 0 < n → (t : Situation) (c : Corp) → Keeps n (settles_in t c)
unfolding settles_corporation
settled_kept n some t c = keeps_settled n some c (t.pars c) (has_floated t.progress c)

private_kept : (n : ℕ) (s : Seat) (source : ShareSource) → s.0 < n → Keeps n (gives_up_private s source)
unfolding gives_up_private
private_kept n s source at =
    keeps_two n (adds (E.Move (C.Private Private.Mh) L.Gone)) (moves_lowest_share Corp.Nyc (place_of_source source) (L.Seat s)) (keeps_move n (C.Private Private.Mh) L.Gone refl)
    (keeps_lowest n Corp.Nyc (place_of_source source) (L.Seat s) (lt-ltb s.0 n at))

swap_kept : (n : ℕ) → 0 < n → (t : Situation) (s : Seat) (source : ShareSource) → s.0 < n → Keeps n (swaps t s source)
unfolding swaps
swap_kept n some t s source at =
    keeps_three n (says (A.Swap s source)) (gives_up_private s source) (settles_in t Corp.Nyc) (says_kept n (A.Swap s source)) (private_kept n s source at) (settled_kept n some t Corp.Nyc)

rise_kept : (n : ℕ) (rows : List Row) (c : Corp) → Keeps n (rises_if_sold_out rows c)
unfolding rises_if_sold_out
rise_kept n rows c o book h = by_test (is_sold_out (holder book) c)
  where
    by_test : (b : Bool) → GoesOn n o book ((if b then sold_out_marks rows c else in_turn []) book)
    by_test true = keeps_mark_at n c (option_and_then (cell_above rows) (mark_of book c)) o book h
    by_test false = keeps_none n o book h

among_kept : (n : ℕ) (rows : List Row) (cs : List Corp) → Keeps n (rises_among rows cs)
unfolding rises_among
among_kept n rows [] = keeps_none n
among_kept n rows (c ∷ cs) = keeps_then n (rises_if_sold_out rows c) (map (rises_if_sold_out rows) cs) (rise_kept n rows c) (among_kept n rows cs)

rises_kept : (n : ℕ) (rows : List Row) → Keeps n (rises rows)
unfolding rises
rises_kept n rows o book h = among_kept n rows (operating_order rows book) o book h

end_kept : (n : ℕ) (rows : List Row) (ends : Bool) → Keeps n (ends_if rows ends)
unfolding ends_stock_round
end_kept n rows true = keeps_two n (rises rows) (adds (E.Step M.Operating)) (rises_kept n rows) (keeps_step n M.Operating)
end_kept n rows false = keeps_none n

done_kept : (n : ℕ) (rows : List Row) (t : Situation) (s : Seat) → Keeps n (ends_turn rows t s)
unfolding ends_turn
done_kept n rows t s = keeps_two n (says (A.Done s)) (ends_if rows (ends_round t.progress)) (says_kept n (A.Done s)) (end_kept n rows (ends_round t.progress))

presidency_paid : (n : ℕ) (rows : List Row) (s : Seat) (c : Corp) (m : ℕ) → s.0 < n → Settles n (debt_of s (2 * m)) no_debt (takes_presidency rows s c m)
unfolding takes_presidency
presidency_paid n rows s c m at =
    let o = debt_of s (2 * m) in
    let gets = adds (E.Move (C.President c) (L.Seat s)) in
    let pays = pays_bank s (2 * m) in
    settles_then n o o no_debt (par_marks rows c m) (gets ∷ pays ∷ []) (λ book h. keeps_mark_at n c (option_map cell_of (par_place rows m)) o book h)
    (settles_then n o o no_debt gets (pays ∷ []) (keeps_move n (C.President c) (L.Seat s) (lt-ltb s.0 n at) o) (settles_one n o no_debt pays (settles_debt n s (2 * m) at)))

par_paid : (n : ℕ) (rows : List Row) (t : Situation) (s : Seat) (c : Corp) (m : ℕ) → s.0 < n → Settles n (debt_of s (2 * m)) no_debt (sets_par rows t s c m)
unfolding sets_par
par_paid n rows t s c m at =
    let o = debt_of s (2 * m) in
    let say = says (A.Par s c m) in
    let takes = takes_presidency rows s c m in
    let floats = float_if_due c (Some m) (has_floated t.progress c) in
    settles_then n o o no_debt say (takes ∷ floats ∷ []) (says_kept n (A.Par s c m) o)
    (settles_then n o no_debt no_debt takes (floats ∷ []) (presidency_paid n rows s c m at) (settles_one n no_debt no_debt floats (keeps_float n c (Some m) (has_floated t.progress c) no_debt)))

share_paid : (n : ℕ) (s : Seat) (c : Corp) (source : ShareSource) (price : ℕ) → s.0 < n → Settles n (debt_of s price) no_debt (gets_share s c source price)
unfolding gets_share
share_paid n s c source price at =
    let o = debt_of s price in
    let gets = moves_lowest_share c (place_of_source source) (L.Seat s) in
    let pays = pays_bank s price in
    settles_then n o o no_debt gets (pays ∷ []) (keeps_lowest n c (place_of_source source) (L.Seat s) (lt-ltb s.0 n at) o) (settles_one n o no_debt pays (settles_debt n s price at))

purchase_paid : (n : ℕ) → 0 < n → (t : Situation) (s : Seat) (c : Corp) (source : ShareSource) → s.0 < n → Settles n (debt_of s (share_price t c source)) no_debt (buys_share t s c source)
unfolding buys_share
purchase_paid n some t s c source at =
    let price = share_price t c source in
    let o = debt_of s price in
    let say = says (A.BuyShare s c source) in
    let gets = gets_share s c source price in
    let settles = settles_in t c in
    settles_then n o o no_debt say (gets ∷ settles ∷ []) (says_kept n (A.BuyShare s c source) o)
    (settles_then n o no_debt no_debt gets (settles ∷ []) (share_paid n s c source price at) (settles_one n no_debt no_debt settles (settled_kept n some t c no_debt)))

-- a test in a chain that refuses nothing
passed : {X : Type 0} (b : Bool) (fault : X) (others : Option X) → (if b then Some fault else others) ≡ None → (b ≡ false) × (others ≡ None)
passed true fault others e = absurd (cc)
passed false fault others e = (refl, e)

neither : {X : Type 0} (first second : Option X) → option_or first second ≡ None → (first ≡ None) × (second ≡ None)
neither None second e = (refl, e)
neither (Some fault) second e = absurd (cc)

not_refused : (b : Bool) → not b ≡ false → b ≡ true
not_refused true e = refl
not_refused false e = absurd (false≢true (sym e))

not_below : (x y : ℤ) → int_lt x y ≡ false → y ≤ℤ x
not_below x y e = grind (arith, ints)

-- who may act sits at the table
actor_there : (n : ℕ) → 0 < n → (book : Book) (s : Seat) → players book ≡ n → turn_verdict (progress book) s ≡ None → s.0 < n
unfolding turn_verdict
actor_there n some book s same lawful =
    let r = progress book in
    let under = passed (not r.under_way) F.WrongStep (if not (same_seat s r.turn) then Some F.NotYourTurn else None) lawful in
    let turn = passed (not (same_seat s r.turn)) F.NotYourTurn None under.1 in
    let is = eqb-true s.0 r.turn.0 (not_refused (same_seat s r.turn) turn.0) in
    let at = (seated book (omega arith)).0 in
    omega arith

par_covered : (rows : List Row) (t : Situation) (s : Seat) (c : Corp) (m : ℕ) → rules.par_verdict rows t s c m ≡ None → pos (2 * m) ≤ℤ t.money (P.Seat s)
unfolding rules.par_verdict
par_covered rows t s c m lawful =
    let one = passed _ F.MustSellFirst _ lawful in
    let two = passed _ F.NotForSale _ one.1 in
    let three = passed _ F.NotAPar _ two.1 in
    let four = passed _ F.SecondPurchase _ three.1 in
    let five = passed _ F.CertificateLimit _ four.1 in
    let six = passed _ F.OverSixty _ five.1 in
    let last = passed (is_short t s (2 * m)) F.TooLittleCash None six.1 in
    not_below (t.money (P.Seat s)) (pos (2 * m)) last.0

purchase_covered : (t : Situation) (s : Seat) (c : Corp) (source : ShareSource) → rules.purchase_verdict t s c source ≡ None → pos (share_price t c source) ≤ℤ t.money (P.Seat s)
unfolding rules.purchase_verdict
purchase_covered t s c source lawful =
    let one = passed _ F.MustSellFirst _ lawful in
    let two = passed _ F.NotForSale _ one.1 in
    let three = passed _ F.SecondPurchase _ two.1 in
    let four = passed _ F.SoldThisRound _ three.1 in
    let five = passed _ F.CertificateLimit _ four.1 in
    let six = passed _ F.OverSixty _ five.1 in
    let last = passed (is_short t s (share_price t c source)) F.TooLittleCash None six.1 in
    not_below (t.money (P.Seat s)) (pos (share_price t c source)) last.0

-- whatever command the rules of a stock round don't refuse
pub goes_by_lawful : (n : ℕ) (rows : List Row) (book : Book) (act : Act) → 0 < n → verdict rows book act ≡ None → IsSolvent n book → GoesOn n no_debt book (entries_of rows book act)
goes_by_lawful n rows book (A.Par s c m) some lawful h =
    let t = situation_of rows book in
    let parts = neither (turn_verdict t.progress s) (rules.par_verdict rows t s c m) lawful in
    let at = actor_there n some book s h.seated parts.0 in
    par_paid n rows t s c m at book (can_pay_debt n s (2 * m) book h (par_covered rows t s c m parts.1))
goes_by_lawful n rows book (A.BuyShare s c source) some lawful h =
    let t = situation_of rows book in
    let parts = neither (turn_verdict t.progress s) (rules.purchase_verdict t s c source) lawful in
    let at = actor_there n some book s h.seated parts.0 in
    purchase_paid n some t s c source at book (can_pay_debt n s (share_price t c source) book h (purchase_covered t s c source parts.1))
goes_by_lawful n rows book (A.Sell s c k) some lawful h =
    let t = situation_of rows book in
    let parts = neither (turn_verdict t.progress s) (rules.sale_verdict t s c k) lawful in
    sale_kept n some rows t s c k (actor_there n some book s h.seated parts.0) no_debt book (without_debt n book h)
goes_by_lawful n rows book (A.Swap s source) some lawful h =
    let t = situation_of rows book in
    let parts = neither (turn_verdict t.progress s) (rules.swap_verdict t s source) lawful in
    swap_kept n some t s source (actor_there n some book s h.seated parts.0) no_debt book (without_debt n book h)
goes_by_lawful n rows book (A.Done s) some lawful h = done_kept n rows (situation_of rows book) s no_debt book (without_debt n book h)
goes_by_lawful n rows book _ some lawful h = absurd (cc)
