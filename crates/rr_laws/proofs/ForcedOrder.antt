-- A lawful forced purchase, and a bankruptcy, leave a table in good order.
use Rattle.std.specs.Prelude.{◌≡◌, ℕ, ◌==◌, ℤ, pos, negsuc, ◌+ℤ◌, ◌-ℤ◌, ◌≤ℤ◌, nat_lt, Bool, true, false, cond, not, ◌&&◌, [], ◌∷◌, ◌++◌, Option, None, Some, option_map, refl, if◌then◌else◌}
use Rattle.std.proofs.Common.{sym, ◌∙◌, ap, subst, arith, inl, inr}
use Rattle.std.proofs.lemmas.Bool.{eqb-true, false≢true}
use Rattle.std.proofs.lemmas.Int.{ints}
use Rattle.rr_roster.specs.declared.company.Corp.{Corp}
use Rattle.rr_roster.specs.Terms.{Terms, price_of}
use Rattle.rr_books.specs.declared.acts.Act.TheVariants as A
use Rattle.rr_books.specs.declared.entries.Entry.TheVariants as E
use Rattle.rr_books.specs.declared.entries.Marker.TheVariants as M
use Rattle.rr_books.specs.declared.parties.Party.{Party}
use Rattle.rr_books.specs.declared.parties.Party.TheVariants as P
use Rattle.rr_books.specs.declared.parties.Seat.{Seat}
use Rattle.rr_books.specs.Book.{Book, balance, balance-push, players}
use Rattle.rr_books.specs.Same.{same_corp, same_seat}
use Rattle.rr_books.specs.Shares.{president}
use Rattle.rr_kit.specs.declared.kit.Kit.{Kit}
use Rattle.rr_desk.specs.Incomes.{dollars}
use Rattle.rr_trains.specs.Depot.Effects.{says}
use Rattle.rr_trains.specs.Depot.Situation.{situation_of}
use Rattle.rr_market.specs.Operations.Due.{due}
use Rattle.rr_operate.specs.Order.{is_due}
use Rattle.rr_shares.specs.Succession.{at_table}
use Rattle.rr_trains.specs.declared.prices.TrainOnSale.{TrainOnSale}
use Rattle.rr_trains.specs.Sales.{cheapest, source_place}
use Rattle.rr_books.specs.declared.refusal.Refusal.TheVariants as F
use Rattle.rr_rules.specs.declared.forced.needs.Need.{Need}
use Rattle.rr_rules.specs.Forced.Effects.{forces, forces_if, gets_train, helps}
use Rattle.rr_rules.specs.Forced.Needs.{IsNeedOf, cheapest_need, leader, missing, need_for, with_leader}
use Rattle.rr_rules.specs.Forced.Rules.{IsForceVerdict, force_verdict}
use Rattle.rr_laws.specs.Soundness.GoodOrder.{IsInGoodOrder}
use Rattle.rr_laws.specs.Soundness.Sound.{IsSolvent}
use Rattle.rr_laws.proofs.SoundnessLemmas.GoodOrder.{order_kept}
use Rattle.rr_laws.proofs.SoundnessLemmas.Going.{same_players}
use Rattle.rr_laws.proofs.SoundnessLemmas.Untouched.{same_is, spares_pay}
use Rattle.rr_laws.proofs.TurnsLemmas.Purchases.{paid_for, says_stays}
use Rattle.rr_laws.proofs.TurnsLemmas.Quiet.{can_settle, due_of}
use Rattle.rr_laws.proofs.TurnsLemmas.Turning.{CanSettle, Settles, TurnsOn, no_dues, settled, settles_one, solvent, turns_by, turns_further, turns_nowhere}
use Rattle.rr_laws.proofs.StockOrder.{in_order}

-- what is missing, with what is there, is the price
covers : (price : ℕ) (cash : ℤ) → pos 0 ≤ℤ cash → pos price ≤ℤ (cash +ℤ pos (missing price cash))
covers price (pos m) h = omega (arith, ints)
covers price (negsuc m) h = absurd (omega (arith, ints))

alone : (price : ℕ) (cash : ℤ) → pos 0 ≤ℤ cash → missing price cash ≡ 0 → pos price ≤ℤ cash
alone price (pos m) h none = omega (arith, ints)
alone price (negsuc m) h none = absurd (omega (arith, ints))

-- where nothing is missing of what two have together, the other has what is missing of the one
together : (price : ℕ) (cash other : ℤ) → pos 0 ≤ℤ cash → pos 0 ≤ℤ other → missing price (cash +ℤ other) ≡ 0 → pos (missing price cash) ≤ℤ other
together price (pos m) (pos k) h g none = omega (arith, ints)
together price (pos m) (negsuc k) h g none = absurd (omega (arith, ints))
together price (negsuc m) other h g none = absurd (omega (arith, ints))

-- the president pays the corporation

keeps : (b : Bool) (m : ℕ) (x : ℤ) → pos 0 ≤ℤ x → (b ≡ true → pos m ≤ℤ x) → pos 0 ≤ℤ ((x +ℤ pos 0) -ℤ cond b (pos m) (pos 0))
keeps true m x h has = let enough = has refl in omega (arith, ints)
keeps false m x h has = omega (arith, ints)

gets : (b : Bool) (price m : ℕ) (x : ℤ) → pos 0 ≤ℤ x → (b ≡ true → pos price ≤ℤ (x +ℤ pos m)) → pos (cond b price 0) ≤ℤ ((x +ℤ cond b (pos m) (pos 0)) -ℤ pos 0)
gets true price m x h has = let enough = has refl in omega (arith, ints)
gets false price m x h has = omega (arith, ints)

same_seat_is : (s t : Seat) → same_seat s t ≡ true → s ≡ t
same_seat_is s t e = ap (λ (n : ℕ). record { 0 = n }) (eqb-true s.0 t.0 e)

helped : (n : ℕ) (s : Seat) (c : Corp) (price m : ℕ) (book : Book) → nat_lt s.0 n ≡ true → CanSettle n no_dues book → pos m ≤ℤ balance book (P.Seat s) → pos price ≤ℤ (balance book (P.Corp c) +ℤ pos m)
    → TurnsOn n (due_of c price) book (helps (Some s) c m book)
helped n s c price m book there h has enough =
    let Has : Seat → Type 0 = λ t. pos m ≤ℤ balance book (P.Seat t) in
    let Enough : Corp → Type 0 = λ d. pos price ≤ℤ (balance book (P.Corp d) +ℤ pos m) in
    turns_by n no_dues (due_of c price) book (E.Pay (P.Seat s) (P.Corp c) (dollars m)) h (same_players n (P.Corp c) refl) (ap (λ (b : Bool). b && true) there) refl
    (λ t. keeps (same_seat t s) m (balance book (P.Seat t)) (h.seats t) (λ e. subst Has (sym (same_seat_is t s e)) has))
    (λ d. gets (same_corp d c) price m (balance book (P.Corp d)) (h.corporations d) (λ e. subst Enough (sym (same_is d c e)) enough))
    (λ d. spares_pay d (P.Seat s) (P.Corp c) (dollars m) book)

-- whom the president pays, if there is one, and who sits at the table then
abbrev Seated : ℕ → Option Seat → Type 0
Seated n None = Unit {0}
Seated n (Some s) = nat_lt s.0 n ≡ true

seated_if : (n : ℕ) (s : Seat) (b : Bool) → nat_lt s.0 n ≡ b → Seated n (if b then Some s else None)
seated_if n s true e = e
seated_if n s false e = tt

seated_at : (n : ℕ) (o : Option Seat) → Seated n (at_table n o)
seated_at n None = tt
seated_at n (Some s) = seated_if n s (nat_lt s.0 n) refl

help_goes : (n : ℕ) (leads : Option Seat) (c : Corp) (price : ℕ) (book after : Book) → Seated n leads → IsSolvent n book → CanSettle n no_dues after → ((p : Party) → balance after p ≡ balance book p)
    → missing price (with_leader (situation_of book) (balance book (P.Corp c)) leads) ≡ 0
    → TurnsOn n (due_of c price) after (helps leads c (missing price (balance book (P.Corp c))) after)
help_goes n None c price book after there h could same none =
    let Has : ℤ → Type 0 = λ x. pos price ≤ℤ x in
    let has = subst Has (sym (same (P.Corp c))) (alone price (balance book (P.Corp c)) (h.corporations c) none) in
    turns_nowhere n (due_of c price) after (can_settle n c price after (solvent n after could) has)
help_goes n (Some s) c price book after there h could same none =
    let cash = balance book (P.Corp c) in
    let own = balance book (P.Seat s) in
    let lack = missing price cash in
    let Has : ℤ → Type 0 = λ x. pos lack ≤ℤ x in
    let Enough : ℤ → Type 0 = λ x. pos price ≤ℤ (x +ℤ pos lack) in
    helped n s c price lack after there could
    (subst Has (sym (same (P.Seat s))) (together price cash own (h.corporations c) (h.seats s) none))
    (subst Enough (sym (same (P.Corp c))) (covers price cash (h.corporations c)))

-- the purchase

bought : (n : ℕ) (need : Need) → Settles n (due_of need.corp need.price) no_dues (gets_train need)
unfolding gets_train
bought n need = paid_for n need.train.kind (source_place need.train.source) need.corp P.Bank need.price need.is_first refl

passed : {X : Type 0} (b : Bool) (fault : X) (others : Option X) → (if b then Some fault else others) ≡ None → (b ≡ false) × (others ≡ None)
passed true fault others e = absurd (cc)
passed false fault others e = (refl, e)

not_refused : (b : Bool) → not b ≡ false → b ≡ true
not_refused true e = refl
not_refused false e = absurd (false≢true (sym e))

nothing_short : (d : Option Corp) (need : Need) → force_verdict d (Some need) ≡ None → need.shortfall ≡ 0
nothing_short d need lawful =
    let one = passed (need.lack == 0) F.WrongStep _ lawful in
    let two = passed (not (is_due d (Some need.corp))) F.NotYourTurn _ one.1 in
    let last = passed (not (need.shortfall == 0)) F.TooLittleCash None two.1 in
    eqb-true need.shortfall 0 (not_refused (need.shortfall == 0) last.0)

unmoved : (x : ℤ) → (x +ℤ pos 0) -ℤ pos 0 ≡ x
unmoved x = omega (arith, ints)

force_goes : (n : ℕ) (roster : Terms) (book : Book) (c : Corp) (train : TrainOnSale) (d : Option Corp) → force_verdict d (Some (need_for roster (situation_of book) c train)) ≡ None → IsSolvent n book
    → TurnsOn n no_dues book (forces (need_for roster (situation_of book) c train) book)
unfolding forces
force_goes n roster book c train d lawful h =
    let t = situation_of book in
    let need = need_for roster t c train in
    let price = price_of roster train.kind in
    let e = E.Step (M.Act (A.Force c)) in
    let after = book ++ e ∷ [] in
    let SeatedAt : ℕ → Type 0 = λ k. Seated k (leader t c) in
    let there = subst SeatedAt h.seated (seated_at (players book) (president t.holders c)) in
    let said = says_stays n (A.Force c) no_dues book (settled n book h) in
    let helps_out = help_goes n (leader t c) c price book after there h said.later (λ p. balance-push book e p ∙ unmoved (balance book p)) (nothing_short d need lawful) in
    let gets_it = settles_one n (due_of c price) no_dues (gets_train need) (bought n need) _ helps_out.later in
    turns_further n no_dues no_dues book (e ∷ []) _ said (turns_further n (due_of c price) no_dues after _ _ helps_out gets_it)

by_offer : (n : ℕ) (roster : Terms) (book : Book) (c : Corp) (offer : Option TrainOnSale) (d : Option Corp) → force_verdict d (option_map (need_for roster (situation_of book) c) offer) ≡ None → IsSolvent n book
    → TurnsOn n no_dues book (forces_if (option_map (need_for roster (situation_of book) c) offer) book)
by_offer n roster book c None d lawful h = absurd (cc)
by_offer n roster book c (Some train) d lawful h = force_goes n roster book c train d lawful h

need_told : (kit : Kit) (book : Book) (c : Corp) (need : Option Need) (d : Option Corp) → IsNeedOf kit book (Some c) need → force_verdict d need ≡ None → need ≡ cheapest_need kit.roster (situation_of book) c
need_told kit book c need d (inl owes) lawful =
    let Lawful : Option Need → Type 0 = λ x. force_verdict d x ≡ None in
    let never : Some F.WrongStep ≡ None = subst Lawful owes.1 lawful in
    absurd (cc)
need_told kit book c need d (inr owes) lawful = owes.1

pub order_by_force : (n : ℕ) (kit : Kit) (book : Book) (c : Corp) → IsForceVerdict kit book c None → IsInGoodOrder n book
    → IsInGoodOrder n (book ++ forces_if (cheapest_need kit.roster (situation_of book) c) book)
order_by_force n kit book c h good =
    let t = situation_of book in
    let d = due kit.chart book in
    let sound = good.sound in
    let told = need_told kit book c h.0 d h.1 (sym h.2) in
    let Lawful : Option Need → Type 0 = λ x. force_verdict d x ≡ None in
    let on = by_offer n kit.roster book c (cheapest t.trains kit.roster) d (subst Lawful told (sym h.2)) sound.solvent in
    let more = forces_if (cheapest_need kit.roster t c) book in
    order_kept n book more on.among on.within (solvent n (book ++ more) on.later) on.untouched good

pub order_by_bankruptcy : (n : ℕ) (book : Book) (s : Seat) → IsInGoodOrder n book → IsInGoodOrder n (book ++ says (A.Bankrupt s) book)
order_by_bankruptcy n book s good = in_order n (says (A.Bankrupt s)) book (says_stays n (A.Bankrupt s)) good
