-- A president's lawful sale for a train leaves a table in good order.
use Rattle.std.specs.Prelude.{◌≡◌, ℕ, ◌+◌, ◌*◌, ◌<◌, ◌≤◌, ◌==◌, ◌⊎◌, nat_lt, Bool, true, false, cond, not, List, [], ◌∷◌, ◌++◌, Option, None, Some, is_some, option_and_then, option_map, refl, if◌then◌else◌}
use Rattle.std.specs.Option.{option_or}
use Rattle.std.proofs.Common.{inl, inr, sym, ◌∙◌, ap, subst, arith, append_assoc, append-nil}
use Rattle.std.proofs.Math.Path.{fun_ext}
use Rattle.std.proofs.lemmas.Bool.{eqb-true, false≢true}
use Rattle.std.proofs.lemmas.Bool.Decides.{nat_tests}
use Rattle.rr_roster.specs.declared.company.Corp.{Corp}
use Rattle.rr_roster.specs.Chart.Chart.{Row}
use Rattle.rr_books.specs.declared.acts.Act.TheVariants as A
use Rattle.rr_books.specs.declared.certificates.Cert.{Cert}
use Rattle.rr_books.specs.declared.certificates.Cert.TheVariants as C
use Rattle.rr_books.specs.declared.entries.Cell.{Cell}
use Rattle.rr_books.specs.declared.entries.Entry.TheVariants as E
use Rattle.rr_books.specs.declared.entries.Marker.TheVariants as M
use Rattle.rr_books.specs.declared.parties.Party.TheVariants as P
use Rattle.rr_books.specs.declared.parties.Place.TheVariants as L
use Rattle.rr_books.specs.declared.parties.Seat.{Seat}
use Rattle.rr_books.specs.Book.{Book, holder, holder-push, players, players-push}
use Rattle.rr_books.specs.Same.{same_corp}
use Rattle.rr_books.specs.Shares.{Holders, president, share}
use Rattle.rr_auction.specs.Dealt.{IsDealt, is_placed}
use Rattle.rr_auction.proofs.Dealing.{dealt_by}
use Rattle.rr_kit.specs.declared.kit.Kit.{Kit}
use Rattle.rr_desk.specs.Effects.{Effect, adds, in_turn}
use Rattle.rr_desk.specs.Incomes.{dollars}
use Rattle.rr_trains.specs.Depot.Situation.{situation_of}
use Rattle.rr_shares.specs.Limits.Holdings.{holdings_of}
use Rattle.rr_shares.specs.Limits.Sales.{sale_verdict}
use Rattle.rr_market.specs.Marks.{mark_of, price_of}
use Rattle.rr_market.specs.Moves.{cell_after_sale, mark_at, sale_marks}
use Rattle.rr_market.specs.Operations.Due.{due}
use Rattle.rr_shares.specs.Effects.{moves_lowest_shares, presidency_after_sale, sale_shares}
use Rattle.rr_shares.specs.Presidents.{NobodyHasMore}
use Rattle.rr_shares.specs.Sales.{AnotherHasTwenty, MaySell, PresidentLeads, SalesMoveShares}
use Rattle.rr_shares.specs.Succession.{at_table}
use Rattle.rr_stock.specs.Effects.{pays_seller, proceeds, says}
use Rattle.rr_stock.specs.PoolLimits.{HasHalfAtMost}
use Rattle.rr_stock.specs.Situation as stock
use Rattle.rr_stock.proofs.PoolLemmas.{Raises, moves_to_pool, pool, raises_by_shares, raises_no_more, raises_one, raises_then}
use Rattle.rr_stock.proofs.SaleVerdicts.{passed}
use Rattle.rr_stock.proofs.TurnLemmas as free
use Rattle.rr_stock.proofs.TurnLemmas.{after_sale_free, seller_free}
use Rattle.rr_trains.specs.declared.prices.TrainOnSale.{TrainOnSale}
use Rattle.rr_trains.specs.Sales.{cheapest}
use Rattle.rr_books.specs.declared.refusal.Refusal.TheVariants as F
use Rattle.rr_rules.specs.declared.forced.needs.Need.{Need}
use Rattle.rr_rules.specs.Forced.Effects.{raises}
use Rattle.rr_rules.specs.Forced.Needs.{IsNeedOf, leader, need_for}
use Rattle.rr_rules.specs.Forced.Rules.{IsRaiseVerdict}
use Rattle.rr_rules.specs.Forced.Sales.{is_seat, president_verdict, raise_verdict, share_verdict}
use Rattle.rr_laws.specs.Soundness.GoodOrder.{IsInGoodOrder}
use Rattle.rr_laws.specs.Soundness.Presidencies.{AwaitsPar, IsGoverned, IsLed}
use Rattle.rr_laws.proofs.Joining.{after_two}
use Rattle.rr_laws.proofs.SoundnessLemmas.Corporations.{keeps_mark_at, keeps_sale}
use Rattle.rr_laws.proofs.SoundnessLemmas.Going.{GoesOn, Keeps, keeps_paid, keeps_step, keeps_three, keeps_two, no_debt, solvent_without_debt, without_debt}
use Rattle.rr_laws.proofs.SoundnessLemmas.GoodOrder.{sum_kept}
use Rattle.rr_laws.proofs.SoundnessLemmas.PricedShares.{unpriced}
use Rattle.rr_laws.proofs.SoundnessLemmas.Untouched.{Spares, governed_still, same_is, spares_pay, spares_sale, spares_step, spares_three, spares_token, spares_two}
use Rattle.rr_laws.proofs.MaySell.{SaleTold, sale_told}

-- money and places

seller_kept : (n : ℕ) (rows : List Row) (s : Seat) (c : Corp) (k amount : ℕ) → nat_lt s.0 n ≡ true → Keeps n (pays_seller rows s c k amount)
unfolding pays_seller
seller_kept n rows s c k amount there =
    keeps_two n (adds (E.Pay P.Bank (P.Seat s) (dollars amount))) (sale_marks rows k c) (keeps_paid n (P.Seat s) amount there)
    (λ o book h. keeps_mark_at n c (option_and_then (cell_after_sale rows k) (mark_of book c)) o book h)

raise_kept : (n : ℕ) → 0 < n → (rows : List Row) (t : stock.Situation) (s : Seat) (c : Corp) (k : ℕ) → nat_lt s.0 n ≡ true → Keeps n (raises rows t s c k)
unfolding raises
raise_kept n some rows t s c k there =
    keeps_three n (says (A.Raise s c k)) (sale_shares c s k) (pays_seller rows s c k (proceeds t c k)) (keeps_step n (M.Act (A.Raise s c k))) (keeps_sale n some c s k)
    (seller_kept n rows s c k (proceeds t c k) there)

-- the pool

pool_spare : free.Spares moves_to_pool
pool_spare = record {
  pay = λ from to amount. refl;
  move = λ cert to h. h;
  mark = λ c cell. refl;
  floats = λ c. refl;
}

raise_raises : (rows : List Row) (t : stock.Situation) (s : Seat) (c d : Corp) (n : ℕ) → Raises (raises rows t s c n) d (n * cond (same_corp d c) 10 0)
unfolding raises sale_shares
raise_raises rows t s c d n book =
    let k : ℕ = n * cond (same_corp d c) 10 0 in
    let say = says (A.Raise s c n) in
    let gets = pays_seller rows s c n (proceeds t c n) in
    let hands = presidency_after_sale c s n in
    let shares = moves_lowest_shares c n (L.Seat s) L.Pool in
    let moved : Raises (sale_shares c s n) d (0 + k) =
    raises_then hands (shares ∷ []) d 0 k (raises_no_more hands d (after_sale_free moves_to_pool pool_spare c s n)) (raises_one shares d k (raises_by_shares c d n (L.Seat s))) in
    let paid : Raises gets d 0 = raises_no_more gets d (seller_free moves_to_pool pool_spare rows s c n (proceeds t c n)) in
    let said : Raises say d 0 = raises_no_more say d (λ b. refl) in
    let all = raises_then say (sale_shares c s n ∷ gets ∷ []) d 0 (0 + k + 0) said (raises_then (sale_shares c s n) (gets ∷ []) d (0 + k) 0 moved (raises_one gets d 0 paid)) book in
    omega arith

half_by : (b : Bool) (n before after : ℕ) → after ≤ before + n * cond b 10 0 → before ≤ 50 → (b ≡ true → before + 10 * n ≤ 50) → after ≤ 50
half_by true n before after h low room = let fits = room refl in omega arith
half_by false n before after h low room = omega arith

half_after : (rows : List Row) (book : Book) (s : Seat) (c : Corp) (n : ℕ) → SaleTold rows book s c n → HasHalfAtMost book → HasHalfAtMost (book ++ raises rows (stock.situation_of rows book) s c n book)
unfolding pool
half_after rows book s c n told half d =
    let t = stock.situation_of rows book in
    let fits = told.room in
    half_by (same_corp d c) n (pool book d) (pool (book ++ raises rows t s c n book) d) (raise_raises rows t s c d n book) (half d)
    (λ same. let of : share (holder book) L.Pool d ≡ share (holder book) L.Pool c = ap (λ (e : Corp). share (holder book) L.Pool e) (same_is d c same) in omega arith)

-- the presidents

after_three : (f g h : Effect) (book : Book) → book ++ in_turn (f ∷ g ∷ h ∷ []) book ≡ ((book ++ f book) ++ g (book ++ f book)) ++ h ((book ++ f book) ++ g (book ++ f book))
after_three f g h book = sym (append_assoc book (f book) (in_turn (g ∷ h ∷ []) (book ++ f book))) ∙ after_two g h (book ++ f book)

held_by_mark : (book : Book) (c : Corp) (cell : Option Cell) → holder (book ++ mark_at c cell) ≡ holder book
held_by_mark book c None = ap (λ (b : Book). holder b) (append-nil book)
held_by_mark book c (Some cell) = fun_ext (λ (x : Cert). holder-push book (E.Mark c cell) x)

held_by_payment : (rows : List Row) (s : Seat) (c : Corp) (n amount : ℕ) (book : Book) → holder (book ++ pays_seller rows s c n amount book) ≡ holder book
unfolding pays_seller
held_by_payment rows s c n amount book =
    let pay = E.Pay P.Bank (P.Seat s) (dollars amount) in
    let paid = book ++ pay ∷ [] in
    ap (λ (b : Book). holder b) (after_two (adds pay) (sale_marks rows n c) book)
    ∙ held_by_mark paid c (option_and_then (cell_after_sale rows n) (mark_of paid c))
    ∙ fun_ext (λ (x : Cert). holder-push book pay x)

may_still : (old new : Book) (c : Corp) (p s : Seat) (n : ℕ) → holder new ≡ holder old → players new ≡ players old → MaySell old c p s n → MaySell new c p s n
may_still old new c p s n held table may =
    let own : share (holder new) (L.Seat s) c ≡ share (holder old) (L.Seat s) c = ap (λ (H : Holders). share H (L.Seat s) c) held in
    let holds = may.holds in
    record { holds = omega arith; leaves = λ same. by_leaves (may.leaves same) }
  where
    by_leaves : (20 + 10 * n ≤ share (holder old) (L.Seat s) c) ⊎ AnotherHasTwenty old c s → (20 + 10 * n ≤ share (holder new) (L.Seat s) c) ⊎ AnotherHasTwenty new c s
    by_leaves (inl h) = let own = ap (λ (H : Holders). share H (L.Seat s) c) held in inl (omega arith)
    by_leaves (inr o) =
        let its = ap (λ (H : Holders). share H (L.Seat o.seat) c) held in
        let at = o.at_table in
        let enough = o.enough in
        inr (record { seat = o.seat; at_table = omega arith; another = o.another; enough = omega arith })

leads_between : (later new : Book) (c : Corp) (m n : ℕ) → holder new ≡ holder later → m ≡ n → PresidentLeads later c m → PresidentLeads new c n
leads_between later new c m n behind same h =
    let most : NobodyHasMore new c n h.seat =
    λ (x : Seat) (at : x.0 < n).
    let le = h.leads x (omega arith) in
    let its : share (holder new) (L.Seat x) c ≡ share (holder later) (L.Seat x) c = ap (λ (H : Holders). share H (L.Seat x) c) behind in
    let own : share (holder new) (L.Seat h.seat) c ≡ share (holder later) (L.Seat h.seat) c = ap (λ (H : Holders). share H (L.Seat h.seat) c) behind in
    omega arith in
    record { seat = h.seat; presides = ap (λ (H : Holders). H (C.President c)) behind ∙ h.presides; leads = most }

raise_leads : SalesMoveShares → (n : ℕ) (rows : List Row) (book : Book) (s : Seat) (c : Corp) (k : ℕ) → n ≤ 6 → players book ≡ n → SaleTold rows book s c k → IsLed n book c
    → PresidentLeads (book ++ raises rows (stock.situation_of rows book) s c k book) c n
unfolding raises
raise_leads sales n rows book s c k few same told led =
    let t = stock.situation_of rows book in
    let p = led.seat in
    let step = E.Step (M.Act (A.Raise s c k)) in
    let said = book ++ step ∷ [] in
    let gets = pays_seller rows s c k (proceeds t c k) in
    let later = said ++ sale_shares c s k said in
    let held : holder said ≡ holder book = fun_ext (λ (x : Cert). holder-push book step x) in
    let table : players said ≡ players book = players-push book step in
    let at = led.at_table in
    let may = may_still book said c p s k held table (told.may p led.presides) in
    let presides = ap (λ (H : Holders). H (C.President c)) held ∙ led.presides in
    let both = sales c said p s k presides (omega arith) (omega arith) may in
    let paid = held_by_payment rows s c k (proceeds t c k) later in
    let whole = after_three (says (A.Raise s c k)) (sale_shares c s k) gets book in
    let Leads : Book → Type 0 = λ after. PresidentLeads after c n in
    subst Leads (sym whole) (leads_between later (later ++ gets later) c (players said) n paid (table ∙ same) both.1)

raise_spares : (c d : Corp) (rows : List Row) (t : stock.Situation) (s : Seat) (k : ℕ) → same_corp c d ≡ false → Spares c (raises rows t s d k)
unfolding raises pays_seller
raise_spares c d rows t s k apart =
    let amount = proceeds t d k in
    spares_three c (says (A.Raise s d k)) (sale_shares d s k) (pays_seller rows s d k amount)
    (spares_step c (M.Act (A.Raise s d k)))
    (spares_sale c d s k apart)
    (spares_two c (adds (E.Pay P.Bank (P.Seat s) (dollars amount))) (sale_marks rows k d) (spares_pay c P.Bank (P.Seat s) (dollars amount)) (spares_token (cell_after_sale rows k) c d))

seat_there : (n : ℕ) (s : Seat) → nat_lt s.0 n ≡ true → s.0 < n
seat_there n s h = grind (arith, nat_tests)

led_with : (n : ℕ) (rows : List Row) (book : Book) (c : Corp) → is_some (price_of rows book c) ≡ true → AwaitsPar book c ⊎ IsLed n book c → IsLed n book c
led_with n rows book c is (inl awaits) = absurd (false≢true (sym (unpriced rows book c awaits) ∙ is))
led_with n rows book c is (inr led) = led

governed_after : SalesMoveShares → (n : ℕ) (rows : List Row) (book : Book) (s : Seat) (c : Corp) (k : ℕ) → n ≤ 6 → players book ≡ n → SaleTold rows book s c k
    → IsDealt n (book ++ raises rows (stock.situation_of rows book) s c k book) → IsGoverned n book → IsGoverned n (book ++ raises rows (stock.situation_of rows book) s c k book)
governed_after sales n rows book s c k few same told dealt h d = by_corp (same_corp d c) refl
  where
    after : Book
    after = book ++ raises rows (stock.situation_of rows book) s c k book

    by_corp : (b : Bool) → same_corp d c ≡ b → AwaitsPar after d ⊎ IsLed n after d
    by_corp false apart = governed_still n d book after (raise_spares d c rows (stock.situation_of rows book) s k apart book) (h d)
    by_corp true is =
        let leads = raise_leads sales n rows book s c k few same told (led_with n rows book c told.priced (h c)) in
        let seat = leads.seat in
        let at = seat_there n seat (sym (ap (is_placed n) leads.presides) ∙ dealt (C.President c)) in
        let Led : Corp → Type 0 = λ x. AwaitsPar after x ⊎ IsLed n after x in
        subst Led (sym (same_is d c is)) (inr (record { seat = seat; at_table = at; presides = leads.presides; leads = leads.leads }))

-- the sale

order_by_sale : SalesMoveShares → (n : ℕ) → 0 < n → n ≤ 6 → (rows : List Row) (book : Book) (s : Seat) (c : Corp) (k : ℕ) → nat_lt s.0 n ≡ true → SaleTold rows book s c k
    → IsInGoodOrder n book → IsInGoodOrder n (book ++ raises rows (stock.situation_of rows book) s c k book)
order_by_sale sales n some few rows book s c k there told h =
    let sound = h.sound in
    let solvent = sound.solvent in
    let t = stock.situation_of rows book in
    let es = raises rows t s c k book in
    let on : GoesOn n no_debt book es = raise_kept n some rows t s c k there no_debt book (without_debt n book solvent) in
    let dealt = dealt_by n es book on.within sound.dealt in
    record {
      together = sum_kept n book es on.among ∙ h.together;
      sound = record { solvent = solvent_without_debt n (book ++ es) on.later; dealt = dealt; pool = half_after rows book s c k told sound.pool };
      governed = governed_after sales n rows book s c k few solvent.seated told dealt h.governed;
    }

-- what its verdict tells: the seller is the corporation's president, who sits at the table, and no rule on sales refuses it

abbrev Sits : ℕ → Option Seat → Type 0
Sits n None = Unit {0}
Sits n (Some s) = nat_lt s.0 n ≡ true

sits_if : (n : ℕ) (s : Seat) (b : Bool) → nat_lt s.0 n ≡ b → Sits n (if b then Some s else None)
sits_if n s true e = e
sits_if n s false e = tt

sits_at : (n : ℕ) (o : Option Seat) → Sits n (at_table n o)
sits_at n None = tt
sits_at n (Some s) = sits_if n s (nat_lt s.0 n) refl

seat_sits : (n : ℕ) (o : Option Seat) (s : Seat) → Sits n o → is_seat o s ≡ true → nat_lt s.0 n ≡ true
seat_sits n None s sits is = absurd (false≢true is)
seat_sits n (Some other) s sits is = ap (λ (k : ℕ). nat_lt k n) (sym (eqb-true other.0 s.0 is)) ∙ sits

first_none : {X : Type 0} (first second : Option X) → option_or first second ≡ None → first ≡ None
first_none None second e = refl
first_none (Some fault) second e = absurd (cc)

not_refused : (b : Bool) → not b ≡ false → b ≡ true
not_refused true e = refl
not_refused false e = absurd (false≢true (sym e))

record RaiseTold (n : ℕ) (rows : List Row) (book : Book) (s : Seat) (c : Corp) (k : ℕ) : Type 0 where
  there : nat_lt s.0 n ≡ true
  lawful : sale_verdict (holdings_of rows book) s c k ≡ None

told_by : (n : ℕ) (rows : List Row) (book : Book) (need : Need) (s : Seat) (c : Corp) (k : ℕ) → Sits n need.president → raise_verdict (holdings_of rows book) (Some need) s c k ≡ None → RaiseTold n rows book s c k
unfolding share_verdict
told_by n rows book need s c k sits lawful =
    let h = holdings_of rows book in
    let one = passed (not (is_seat need.president s)) F.NotYourTurn _ lawful in
    let two = passed (need.shortfall == 0) F.SaleNotNeeded _ one.1 in
    record {
      there = seat_sits n need.president s sits (not_refused (is_seat need.president s) one.0);
      lawful = first_none (sale_verdict h s c k) (president_verdict h.holders h.players need.corp s c k) two.1;
    }

by_offer : (n : ℕ) (kit : Kit) (book : Book) (d : Corp) (offer : Option TrainOnSale) (s : Seat) (c : Corp) (k : ℕ) → players book ≡ n
    → raise_verdict (holdings_of kit.chart book) (option_map (need_for kit.roster (situation_of book) d) offer) s c k ≡ None → RaiseTold n kit.chart book s c k
by_offer n kit book d None s c k same lawful = absurd (cc)
by_offer n kit book d (Some train) s c k same lawful =
    let t = situation_of book in
    let SitsAt : ℕ → Type 0 = λ m. Sits m (leader t d) in
    told_by n kit.chart book (need_for kit.roster t d train) s c k (subst SitsAt same (sits_at (players book) (president t.holders d))) lawful

raise_told : (n : ℕ) (kit : Kit) (book : Book) (buyer : Option Corp) (need : Option Need) (s : Seat) (c : Corp) (k : ℕ) → players book ≡ n → IsNeedOf kit book buyer need
    → raise_verdict (holdings_of kit.chart book) need s c k ≡ None → RaiseTold n kit.chart book s c k
raise_told n kit book None need s c k same is lawful =
    let Lawful : Option Need → Type 0 = λ x. raise_verdict (holdings_of kit.chart book) x s c k ≡ None in
    let never : Some F.NotYourTurn ≡ None = subst Lawful is lawful in
    absurd (cc)
raise_told n kit book (Some d) need s c k same (inl is) lawful =
    let Lawful : Option Need → Type 0 = λ x. raise_verdict (holdings_of kit.chart book) x s c k ≡ None in
    let never : Some F.NotYourTurn ≡ None = subst Lawful is.1 lawful in
    absurd (cc)
raise_told n kit book (Some d) need s c k same (inr is) lawful =
    let t = situation_of book in
    let Lawful : Option Need → Type 0 = λ x. raise_verdict (holdings_of kit.chart book) x s c k ≡ None in
    by_offer n kit book d (cheapest t.trains kit.roster) s c k same (subst Lawful is.1 lawful)

pub order_by_raise : SalesMoveShares → (n : ℕ) → 0 < n → n ≤ 6 → (kit : Kit) (book : Book) (s : Seat) (c : Corp) (k : ℕ) → IsRaiseVerdict kit book s c k None → IsInGoodOrder n book
    → IsInGoodOrder n (book ++ raises kit.chart (stock.situation_of kit.chart book) s c k book)
order_by_raise sales n some few kit book s c k h good =
    let sound = good.sound in
    let solvent = sound.solvent in
    let told = raise_told n kit book (due kit.chart book) h.0 s c k solvent.seated h.1 (sym h.2) in
    order_by_sale sales n some few kit.chart book s c k told.there (sale_told kit.chart book s c k told.lawful) good
