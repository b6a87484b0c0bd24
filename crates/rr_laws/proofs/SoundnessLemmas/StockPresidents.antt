-- Lawful commands of a stock round leave each corporation awaiting its par or led by its president.
use Rattle.std.specs.Prelude.{◌≡◌, ℕ, ◌<◌, ◌≤◌, nat_lt, Bool, true, false, cond, ◌⊎◌, List, [], ◌∷◌, ◌++◌, Option, None, Some, is_some, refl}
use Rattle.std.specs.List.{list_all}
use Rattle.std.proofs.Common.{sym, ◌∙◌, ap, subst, arith, append_assoc, append-nil, inl, inr}
use Rattle.std.proofs.lemmas.Bool.{and_parts, false≢true, lt-ltb}
use Rattle.std.proofs.lemmas.Bool.Decides.{nat_tests}
use Rattle.rr_roster.specs.declared.company.Private.{Private}
use Rattle.rr_roster.specs.declared.company.Corp.{Corp}
use Rattle.rr_roster.specs.Chart.Chart.{Row}
use Rattle.rr_books.specs.declared.parties.Seat.{Seat}
use Rattle.rr_books.specs.declared.parties.Place.{Place}
use Rattle.rr_books.specs.declared.parties.Place.TheVariants as L
use Rattle.rr_books.specs.declared.certificates.Cert.{Cert}
use Rattle.rr_books.specs.declared.certificates.Cert.TheVariants as C
use Rattle.rr_books.specs.declared.entries.Entry.{Entry}
use Rattle.rr_books.specs.declared.entries.Entry.TheVariants as E
use Rattle.rr_books.specs.declared.acts.Act.{Act}
use Rattle.rr_books.specs.declared.acts.Act.TheVariants as A
use Rattle.rr_roster.specs.declared.sources.ShareSource.{ShareSource}
use Rattle.rr_books.specs.Book.{Book, holder, holder-push, holder_after, players}
use Rattle.rr_books.specs.Same.{same_cert, same_corp}
use Rattle.rr_books.specs.Shares.{is_at}
use Rattle.rr_books.specs.State.{has_place}
use Rattle.rr_shares.specs.Sales.{PresidentLeads}
use Rattle.rr_market.specs.Marks.{par_of, price_of}
use Rattle.rr_stock.specs.Rules.{verdict}
use Rattle.rr_stock.specs.Effects.{buys_share, ends_turn, entries_of, sells, sets_par, swaps}
use Rattle.rr_stock.specs.SoldShares.{LawfulSalesMoveShares}
use Rattle.rr_stock.specs.Situation.{Situation, situation_of}
use Rattle.rr_laws.specs.Soundness.Presidencies.{AwaitsPar, IsGoverned, IsLed}
use Rattle.rr_laws.specs.Soundness.Sound.{IsSolvent, is_placed}
use Rattle.rr_auction.specs.Dealt.{moves_within}
use Rattle.rr_laws.proofs.SoundnessLemmas.StockActs.{goes_by_lawful}
use Rattle.rr_laws.proofs.SoundnessLemmas.Untouched.{IsUntouched, awaits_still, awaiting, leads_still, same_is, spares_none}
use Rattle.rr_laws.proofs.SoundnessLemmas.Bystanders.{done_spares, par_spares, purchase_spares, sale_spares, swap_spares}
use Rattle.rr_laws.proofs.SoundnessLemmas.Leaders.{HasPresident, par_leads, purchase_leads, swap_awaits, swap_leads}
use Rattle.rr_laws.proofs.SoundnessLemmas.PricedShares.{par_offered, parless, purchase_priced, sale_priced, swap_owned, unpriced}

-- what a command leaves of one corporation, where the seats of its certificates are left aside
abbrev LedOrAwaits : ℕ → Book → Corp → Type 0
LedOrAwaits n book c = AwaitsPar book c ⊎ PresidentLeads book c n

left_alone : (n : ℕ) (c : Corp) (old new : Book) → IsUntouched c old new → AwaitsPar old c ⊎ IsLed n old c → LedOrAwaits n new c
left_alone n c old new h (inl awaits) = inl (awaits_still c old new h awaits)
left_alone n c old new h (inr led) =
    let keeps = h.keeps in
    inr (record { seat = led.seat; presides = keeps.president ∙ led.presides; leads = leads_still n c old new led.seat h led.leads })

-- the corporation that the command concerns, and the others
each_of : (n : ℕ) (c d : Corp) (old new : Book) → AwaitsPar old c ⊎ IsLed n old c → (same_corp c d ≡ false → IsUntouched c old new) → LedOrAwaits n new d → LedOrAwaits n new c
each_of n c d old new h others own = by_corp (same_corp c d) refl
  where
    by_corp : (b : Bool) → same_corp c d ≡ b → LedOrAwaits n new c
    by_corp false apart = left_alone n c old new (others apart) h
    by_corp true same =
        let So : Corp → Type 0 = λ x. LedOrAwaits n new x in
        subst So (sym (same_is c d same)) own

-- a corporation with a price or a par is led
led_with : (n : ℕ) (book : Book) (c : Corp) (b : Bool) → b ≡ true → (AwaitsPar book c → b ≡ false) → AwaitsPar book c ⊎ IsLed n book c → IsLed n book c
led_with n book c b is none (inl awaits) = absurd (false≢true (sym (none awaits) ∙ is))
led_with n book c b is none (inr led) = led

headed : (n : ℕ) (book : Book) (c : Corp) → players book ≡ n → IsLed n book c → HasPresident n book c
headed n book c same led = record { seat = led.seat; at_table = led.at_table; presides = led.presides; players = same }

-- the book once a command is taken down
abbrev with_act : List Row → Book → Act → Book
with_act rows book act = book ++ entries_of rows book act

sale_leads : LawfulSalesMoveShares → (n : ℕ) (rows : List Row) (book : Book) (s : Seat) (c : Corp) (k : ℕ) → n ≤ 6 → verdict rows book (A.Sell s c k) ≡ None → players book ≡ n → IsLed n book c → PresidentLeads (with_act rows book (A.Sell s c k)) c n
sale_leads sales n rows book s c k few lawful same led =
    let Led : ℕ → Type 0 = λ m. PresidentLeads (with_act rows book (A.Sell s c k)) c m in
    let at = led.at_table in
    let sold = sales rows book led.seat s c k lawful led.presides (omega arith) (omega arith) in
    subst Led same sold.1

swap_left : (n : ℕ) (t : Situation) (s : Seat) (source : ShareSource) (book : Book) → n ≤ 6 → players book ≡ n → is_at (holder book (C.Private Private.Mh)) (L.Seat s) ≡ true → AwaitsPar book Corp.Nyc ⊎ IsLed n book Corp.Nyc → LedOrAwaits n (book ++ swaps t s source book) Corp.Nyc
swap_left n t s source book few same has (inl awaits) = inl (swap_awaits t s source book has awaits)
swap_left n t s source book few same has (inr led) = inr (swap_leads n t s source book few (headed n book Corp.Nyc same led))

act_leaves : LawfulSalesMoveShares → (n : ℕ) (rows : List Row) (book : Book) (act : Act) → n ≤ 6 → verdict rows book act ≡ None → players book ≡ n → IsGoverned n book → (c : Corp) → LedOrAwaits n (with_act rows book act) c
act_leaves sales n rows book (A.Par s d m) few lawful same h c =
    let t = situation_of rows book in
    let awaits = awaiting n book d (h d) (par_offered rows book s d m lawful) in
    each_of n c d book (book ++ sets_par rows t s d m book) (h c) (λ apart. par_spares c d rows t s m apart book) (inr (par_leads n rows t s d m book awaits))
act_leaves sales n rows book (A.BuyShare s d source) few lawful same h c =
    let t = situation_of rows book in
    let led = led_with n book d (is_some (par_of rows book d)) (purchase_priced rows book s d source lawful) (λ awaits. parless rows book d awaits) (h d) in
    each_of n c d book (book ++ buys_share t s d source book) (h c) (λ apart. purchase_spares c d t s source apart book) (inr (purchase_leads n t s d source book few (headed n book d same led)))
act_leaves sales n rows book (A.Sell s d k) few lawful same h c =
    let t = situation_of rows book in
    let led = led_with n book d (is_some (price_of rows book d)) (sale_priced rows book s d k lawful) (λ awaits. unpriced rows book d awaits) (h d) in
    each_of n c d book (book ++ sells rows t s d k book) (h c) (λ apart. sale_spares c d rows t s k apart book) (inr (sale_leads sales n rows book s d k few lawful same led))
act_leaves sales n rows book (A.Swap s source) few lawful same h c =
    let t = situation_of rows book in
    each_of n c Corp.Nyc book (book ++ swaps t s source book) (h c) (λ apart. swap_spares c t s source apart book)
    (swap_left n t s source book few same (swap_owned rows book s source lawful) (h Corp.Nyc))
act_leaves sales n rows book (A.Done s) few lawful same h c =
    let t = situation_of rows book in
    left_alone n c book (book ++ ends_turn rows t s book) (done_spares c rows t s book) (h c)
act_leaves sales n rows book _ few lawful same h c = left_alone n c book (book ++ []) (spares_none c book) (h c)

-- a certificate keeps a place of the table
either_placed : (n : ℕ) (b : Bool) (to : Place) (x : Option Place) → has_place n to ≡ true → is_placed n x ≡ true → is_placed n (cond b (Some to) x) ≡ true
either_placed n true to x there h = there
either_placed n false to x there h = h

placed_by : (n : ℕ) (e : Entry) (cert : Cert) (x : Option Place) → moves_within n e ≡ true → is_placed n x ≡ true → is_placed n (holder_after cert x e) ≡ true
placed_by n (E.Move moved to) cert x there h = either_placed n (same_cert cert moved) to x there h
placed_by n _ cert x there h = h

placed_after : (n : ℕ) (cert : Cert) (es book : Book) → list_all (moves_within n) es ≡ true → is_placed n (holder book cert) ≡ true → is_placed n (holder (book ++ es) cert) ≡ true
placed_after n cert [] book all h = ap (λ (b : Book). is_placed n (holder b cert)) (append-nil book) ∙ h
placed_after n cert (e ∷ es) book all h =
    let parts = and_parts (moves_within n e) (list_all (moves_within n) es) all in
    let one = ap (is_placed n) (holder-push book e cert) ∙ placed_by n e cert (holder book cert) parts.0 h in
    ap (λ (b : Book). is_placed n (holder b cert)) (sym (append_assoc book (e ∷ []) es)) ∙ placed_after n cert es (book ++ e ∷ []) parts.1 one

-- so the 20% certificate does
placed_before : (n : ℕ) (book : Book) (c : Corp) → AwaitsPar book c ⊎ IsLed n book c → is_placed n (holder book (C.President c)) ≡ true
placed_before n book c (inl awaits) = ap (is_placed n) awaits.offered
placed_before n book c (inr led) = let seat = led.seat in ap (is_placed n) led.presides ∙ lt-ltb seat.0 n led.at_table

seat_there : (n : ℕ) (s : Seat) → nat_lt s.0 n ≡ true → s.0 < n
seat_there n s h = grind (arith, nat_tests)

seated_after : (n : ℕ) (book : Book) (c : Corp) → is_placed n (holder book (C.President c)) ≡ true → LedOrAwaits n book c → AwaitsPar book c ⊎ IsLed n book c
seated_after n book c placed (inl awaits) = inl awaits
seated_after n book c placed (inr led) =
    inr (record {
      seat = led.seat;
      at_table = seat_there n led.seat (sym (ap (is_placed n) led.presides) ∙ placed);
      presides = led.presides;
      leads = led.leads;
    })

-- each lawful command of a stock round
pub governed_by_command : LawfulSalesMoveShares → (n : ℕ) (rows : List Row) (book : Book) (act : Act) → 0 < n → n ≤ 6 → verdict rows book act ≡ None → IsSolvent n book → IsGoverned n book → IsGoverned n (with_act rows book act)
governed_by_command sales n rows book act some few lawful solvent h c =
    let es = entries_of rows book act in
    let on = goes_by_lawful n rows book act some lawful solvent in
    let placed = placed_after n (C.President c) es book on.within (placed_before n book c (h c)) in
    seated_after n (book ++ es) c placed (act_leaves sales n rows book act few lawful solvent.seated h c)
