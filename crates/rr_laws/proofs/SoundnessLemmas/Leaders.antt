-- Who leads a corporation after a par, a purchase and a swap.
use Rattle.std.specs.Prelude.{◌≡◌, ℕ, ◌*◌, ◌<◌, ◌≤◌, max, Bool, true, false, cond, List, [], ◌∷◌, ◌++◌, Option, None, Some, find, map, option_map, refl}
use Rattle.std.proofs.Common.{sym, ◌∙◌, ap, subst, arith, append_assoc, append-nil}
use Rattle.std.proofs.Math.Path.{fun_ext}
use Rattle.std.proofs.lemmas.Bool.{false≢true}
use Rattle.rr_roster.specs.declared.company.Private.{Private}
use Rattle.rr_roster.specs.declared.company.Corp.{Corp}
use Rattle.rr_roster.specs.Chart.Chart.{Row, par_place}
use Rattle.rr_books.specs.declared.parties.Party.TheVariants as P
use Rattle.rr_books.specs.declared.parties.Seat.{Seat}
use Rattle.rr_books.specs.declared.parties.Place.{Place}
use Rattle.rr_books.specs.declared.parties.Place.TheVariants as L
use Rattle.rr_books.specs.declared.certificates.ShareNumber.{ShareNumber}
use Rattle.rr_books.specs.declared.certificates.Cert.{Cert}
use Rattle.rr_books.specs.declared.certificates.Cert.TheVariants as C
use Rattle.rr_books.specs.declared.entries.Cell.{Cell}
use Rattle.rr_books.specs.declared.entries.Entry.TheVariants as E
use Rattle.rr_books.specs.declared.entries.Marker.TheVariants as M
use Rattle.rr_books.specs.declared.acts.Act.{Act}
use Rattle.rr_books.specs.declared.acts.Act.TheVariants as A
use Rattle.rr_roster.specs.declared.sources.ShareSource.{ShareSource}
use Rattle.rr_books.specs.Book.{Book, holder, holder-push, players, players-push}
use Rattle.rr_books.specs.Shares.{Holders, is_at, president, seat_of, share, share_numbers}
use Rattle.rr_desk.specs.Effects.{Effect, adds, in_turn, moves_if, moves_lowest_share}
use Rattle.rr_desk.specs.Incomes.{dollars}
use Rattle.rr_shares.specs.declared.succession.Handover.{Handover}
use Rattle.rr_shares.specs.Holdings.{percents}
use Rattle.rr_shares.specs.Succession.{at_table, handover_by, handover_due}
use Rattle.rr_shares.specs.Presidents.{IsPresident, NobodyHasMore}
use Rattle.rr_shares.specs.Sales.{PresidentLeads}
use Rattle.rr_shares.specs.Effects.{float_if_due, hands_over_if, presidency}
use Rattle.rr_shares.proofs.Handovers.{president_has_most}
use Rattle.rr_market.specs.Moves.{cell_of, mark_at, par_marks}
use Rattle.rr_rounds.specs.Round.{has_floated}
use Rattle.rr_stock.specs.Rules.{place_of_source, share_price}
use Rattle.rr_stock.specs.Effects.{buys_share, gets_share, gives_up_private, pays_bank, says, sets_par, settles_corporation, settles_in, swaps, takes_presidency}
use Rattle.rr_stock.specs.Situation.{Situation}
use Rattle.rr_laws.specs.Soundness.Presidencies.{AwaitsPar, IsOffered, promised}
use Rattle.rr_laws.proofs.SoundnessLemmas.Gaining.{goes_there, more_by_lowest, taken_leads}
use Rattle.rr_laws.proofs.SoundnessLemmas.Untouched.{IsUntouched, KeepsOffer, awaits_still, keeps_both, leads_still, lowest_kept, share_untouched, spares_float, spares_none, spares_pay, spares_step}
use Rattle.rr_laws.proofs.SoundnessLemmas.Bystanders.{gone_spares}

-- what holds of the book behind an effect and the others holds behind them in turn
go_on : (Is : Book → Type 0) (f : Effect) (fs : List Effect) (book : Book) → Is ((book ++ f book) ++ in_turn fs (book ++ f book)) → Is (book ++ in_turn (f ∷ fs) book)
go_on Is f fs book h = subst Is (append_assoc book (f book) (in_turn fs (book ++ f book))) h

go_last : (Is : Book → Type 0) (f : Effect) (book : Book) → Is (book ++ f book) → Is (book ++ in_turn (f ∷ []) book)
go_last Is f book h = subst Is (sym (ap (λ (es : Book). book ++ es) (append-nil (f book)))) h

-- whoever leads goes on as its corporation is untouched
leads_on : (n : ℕ) (c : Corp) (old new : Book) → IsUntouched c old new → PresidentLeads old c n → PresidentLeads new c n
leads_on n c old new h led =
    let keeps = h.keeps in
    record { seat = led.seat; presides = keeps.president ∙ led.presides; leads = leads_still n c old new led.seat h led.leads }

-- who holds what stays as a token is marked
held_by_mark : (book : Book) (c : Corp) (cell : Option Cell) → holder (book ++ mark_at c cell) ≡ holder book
held_by_mark book c None = ap (λ (b : Book). holder b) (append-nil book)
held_by_mark book c (Some cell) = fun_ext (λ (x : Cert). holder-push book (E.Mark c cell) x)

-- whoever sets the par leads
taken_marked : (n : ℕ) (c : Corp) (s : Seat) (cell : Option Cell) (book : Book) → AwaitsPar book c → PresidentLeads ((book ++ mark_at c cell) ++ E.Move (C.President c) (L.Seat s) ∷ []) c n
taken_marked n c s cell book awaits =
    let marked = book ++ mark_at c cell in
    let held = held_by_mark book c cell in
    record {
      seat = s;
      presides = goes_there c (L.Seat s) marked;
      leads = taken_leads n marked c s (ap (λ (H : Holders). H (C.President c)) held ∙ awaits.offered)
          (λ t. let same = ap (λ (H : Holders). share H (L.Seat t) c) held in let had = awaits.low t in omega arith);
    }

presidency_taken : (n : ℕ) (rows : List Row) (s : Seat) (c : Corp) (m : ℕ) (book : Book) → AwaitsPar book c → PresidentLeads (book ++ takes_presidency rows s c m book) c n
unfolding takes_presidency
presidency_taken n rows s c m book awaits =
    let Led : Book → Type 0 = λ b. PresidentLeads b c n in
    let mark = par_marks rows c m in
    let move = adds (E.Move (C.President c) (L.Seat s)) in
    let pay = pays_bank s (2 * m) in
    let marked = book ++ mark book in
    let moved = marked ++ move marked in
    go_on Led mark (move ∷ pay ∷ []) book
    (go_on Led move (pay ∷ []) marked
    (go_last Led pay moved (leads_on n c moved (moved ++ pay moved) (spares_pay c (P.Seat s) P.Bank (dollars (2 * m)) moved) (taken_marked n c s (option_map cell_of (par_place rows m)) book awaits))))

pub par_leads : (n : ℕ) (rows : List Row) (t : Situation) (s : Seat) (c : Corp) (m : ℕ) (book : Book) → AwaitsPar book c → PresidentLeads (book ++ sets_par rows t s c m book) c n
unfolding sets_par
par_leads n rows t s c m book awaits =
    let Led : Book → Type 0 = λ b. PresidentLeads b c n in
    let say = says (A.Par s c m) in
    let takes = takes_presidency rows s c m in
    let floats = float_if_due c (Some m) (has_floated t.progress c) in
    let told = book ++ say book in
    let taken = told ++ takes told in
    go_on Led say (takes ∷ floats ∷ []) book
    (go_on Led takes (floats ∷ []) told
    (go_last Led floats taken
    (leads_on n c taken (taken ++ floats taken) (spares_float c c (Some m) (has_floated t.progress c) taken)
    (presidency_taken n rows s c m told (awaits_still c book told (spares_step c (M.Act (A.Par s c m)) book) awaits)))))

-- as many players as before
abbrev Seats : Effect → Type 0
Seats f = (book : Book) → players (book ++ f book) ≡ players book

none_more : (k : ℕ) → max k 0 ≡ k
none_more k = omega arith

seats_first : (test : Cert → Bool) (c : Corp) (to : Place) (book : Book) (ns : List ShareNumber) → players (book ++ moves_if (find test (map (λ n. C.Share c n) ns)) to) ≡ players book
seats_first test c to book [] = ap (λ (b : Book). players b) (append-nil book)
seats_first test c to book (n ∷ ns) =
    elim (test (C.Share c n)) as (λ b. players (book ++ moves_if (cond b (Some (C.Share c n)) (find test (map (λ k. C.Share c k) ns))) to) ≡ players book) [
      | true ↦ players-push book (E.Move (C.Share c n) to)
      | false ↦ seats_first test c to book ns
    ]

seats_lowest : (c : Corp) (from to : Place) → Seats (moves_lowest_share c from to)
seats_lowest c from to book = seats_first (λ cert. is_at (holder book cert) from) c to book share_numbers

-- the 20% certificate is with a seat of a table of n, which has n players
pub record HasPresident (n : ℕ) (book : Book) (c : Corp) : Type 0 where
  pub seat : Seat
  pub at_table : seat.0 < n
  pub presides : IsPresident book c seat
  pub players : players book ≡ n

president_on : (n : ℕ) (c : Corp) (old new : Book) → KeepsOffer c old new → players new ≡ players old → HasPresident n old c → HasPresident n new c
president_on n c old new keeps same h = record { seat = h.seat; at_table = h.at_table; presides = keeps.president ∙ h.presides; players = same ∙ h.players }

-- once a new share is settled somebody leads
settled_leads : (n : ℕ) (t : Situation) (c : Corp) (book : Book) → n ≤ 6 → HasPresident n book c → PresidentLeads (book ++ settles_in t c book) c n
unfolding settles_corporation
settled_leads n t c book few h =
    let Led : Book → Type 0 = λ b. PresidentLeads b c n in
    let floats = float_if_due c (t.pars c) (has_floated t.progress c) in
    let settled = book ++ presidency c book in
    let at = h.at_table in
    let same = h.players in
    let most = president_has_most c book h.seat h.presides (omega arith) (omega arith) in
    let Most : ℕ → Type 0 = λ k. NobodyHasMore settled c k most.0 in
    let led : PresidentLeads settled c n = record { seat = most.0; presides = most.1; leads = subst Most same most.2 } in
    go_on Led (presidency c) (floats ∷ []) book
    (go_last Led floats settled (leads_on n c settled (settled ++ floats settled) (spares_float c c (t.pars c) (has_floated t.progress c) settled) led))

share_got : (n : ℕ) (s : Seat) (c : Corp) (source : ShareSource) (price : ℕ) (book : Book) → HasPresident n book c → HasPresident n (book ++ gets_share s c source price book) c
unfolding gets_share
share_got n s c source price book h =
    let Has : Book → Type 0 = λ b. HasPresident n b c in
    let gets = moves_lowest_share c (place_of_source source) (L.Seat s) in
    let pays = pays_bank s price in
    let got = book ++ gets book in
    let paid = spares_pay c (P.Seat s) P.Bank (dollars price) got in
    go_on Has gets (pays ∷ []) book
    (go_last Has pays got
    (president_on n c got (got ++ pays got) paid.keeps (players-push got (E.Pay (P.Seat s) P.Bank (dollars price)) ∙ none_more (players got))
    (president_on n c book got (lowest_kept c c (place_of_source source) (L.Seat s) book) (seats_lowest c (place_of_source source) (L.Seat s) book) h)))

president_told : (n : ℕ) (c : Corp) (act : Act) (book : Book) → HasPresident n book c → HasPresident n (book ++ says act book) c
president_told n c act book h =
    let told = spares_step c (M.Act act) book in
    president_on n c book (book ++ says act book) told.keeps (players-push book (E.Step (M.Act act))) h

pub purchase_leads : (n : ℕ) (t : Situation) (s : Seat) (c : Corp) (source : ShareSource) (book : Book) → n ≤ 6 → HasPresident n book c → PresidentLeads (book ++ buys_share t s c source book) c n
unfolding buys_share
purchase_leads n t s c source book few h =
    let Led : Book → Type 0 = λ b. PresidentLeads b c n in
    let say = says (A.BuyShare s c source) in
    let gets = gets_share s c source (share_price t c source) in
    let told = book ++ say book in
    let got = told ++ gets told in
    go_on Led say (gets ∷ settles_in t c ∷ []) book
    (go_on Led gets (settles_in t c ∷ []) told
    (go_last Led (settles_in t c) got (settled_leads n t c got few (share_got n s c source (share_price t c source) told (president_told n c (A.BuyShare s c source) book h)))))

private_given_up : (n : ℕ) (s : Seat) (source : ShareSource) (book : Book) → HasPresident n book Corp.Nyc → HasPresident n (book ++ gives_up_private s source book) Corp.Nyc
unfolding gives_up_private
private_given_up n s source book h =
    let Has : Book → Type 0 = λ b. HasPresident n b Corp.Nyc in
    let gone = adds (E.Move (C.Private Private.Mh) L.Gone) in
    let gets = moves_lowest_share Corp.Nyc (place_of_source source) (L.Seat s) in
    let left = book ++ gone book in
    let spared = gone_spares Corp.Nyc book in
    go_on Has gone (gets ∷ []) book
    (go_last Has gets left
    (president_on n Corp.Nyc left (left ++ gets left) (lowest_kept Corp.Nyc Corp.Nyc (place_of_source source) (L.Seat s) left) (seats_lowest Corp.Nyc (place_of_source source) (L.Seat s) left)
    (president_on n Corp.Nyc book left spared.keeps (players-push book (E.Move (C.Private Private.Mh) L.Gone)) h)))

pub swap_leads : (n : ℕ) (t : Situation) (s : Seat) (source : ShareSource) (book : Book) → n ≤ 6 → HasPresident n book Corp.Nyc → PresidentLeads (book ++ swaps t s source book) Corp.Nyc n
unfolding swaps
swap_leads n t s source book few h =
    let Led : Book → Type 0 = λ b. PresidentLeads b Corp.Nyc n in
    let say = says (A.Swap s source) in
    let gives = gives_up_private s source in
    let settles = settles_in t Corp.Nyc in
    let told = book ++ say book in
    let given = told ++ gives told in
    go_on Led say (gives ∷ settles ∷ []) book
    (go_on Led gives (settles ∷ []) told
    (go_last Led settles given (settled_leads n t Corp.Nyc given few (private_given_up n s source told (president_told n Corp.Nyc (A.Swap s source) book h)))))

-- what is with a seat isn't gone
not_gone : (x : Option Place) (s : Seat) → is_at x (L.Seat s) ≡ true → is_at x L.Gone ≡ false
not_gone None s h = refl
not_gone (Some (L.Seat t)) s h = refl
not_gone (Some (L.Corp c)) s h = refl
not_gone (Some L.Offer) s h = refl
not_gone (Some L.Pool) s h = refl
not_gone (Some L.Gone) s h = absurd (false≢true h)

-- the NYC still awaits its par where the M&H brought its share
private_awaits : (s : Seat) (source : ShareSource) (book : Book) → AwaitsPar book Corp.Nyc → ((t : Seat) → share (holder book) (L.Seat t) Corp.Nyc ≤ 10) → AwaitsPar (book ++ gives_up_private s source book) Corp.Nyc
unfolding gives_up_private
private_awaits s source book awaits low =
    let Awaits : Book → Type 0 = λ b. AwaitsPar b Corp.Nyc in
    let move = E.Move (C.Private Private.Mh) L.Gone in
    let gone = adds move in
    let from = place_of_source source in
    let gets = moves_lowest_share Corp.Nyc from (L.Seat s) in
    let left = book ++ gone book in
    let got = left ++ gets left in
    let spared = gone_spares Corp.Nyc book in
    let last = lowest_kept Corp.Nyc Corp.Nyc from (L.Seat s) left in
    let keeps = keeps_both Corp.Nyc book left got spared.keeps last in
    let awaits_now : AwaitsPar got Corp.Nyc = record {
      offered = keeps.president ∙ awaits.offered;
      unmarked = keeps.unmarked awaits.unmarked;
      low = λ t.
          let more = more_by_lowest Corp.Nyc from (L.Seat s) (L.Seat t) left in
          let same = share_untouched Corp.Nyc book left (L.Seat t) spared in
          let had = low t in
          let now : promised (holder left) Corp.Nyc ≡ 0 = ap (λ (x : Option Place). cond {A = ℕ} (is_at x L.Gone) 0 10) (holder-push book move (C.Private Private.Mh)) in
          let fewer = last.promises in
          omega arith;
    } in
    go_on Awaits gone (gets ∷ []) book (go_last Awaits gets left awaits_now)

-- no presidency changes hands while the 20% certificate is in the offering
offered_spares : (c : Corp) (book : Book) → IsOffered book c → IsUntouched c book (book ++ presidency c book)
unfolding presidency handover_due
offered_spares c book offered =
    let So : Option Handover → Type 0 = λ h. IsUntouched c book (book ++ hands_over_if c h book) in
    let none : handover_by (percents (holder book) c) (players book) (at_table (players book) (president (holder book) c)) ≡ None =
    ap (λ (x : Option Place). handover_by (percents (holder book) c) (players book) (at_table (players book) (seat_of x))) offered in
    subst So (sym none) (spares_none c book)

settled_awaits : (t : Situation) (c : Corp) (book : Book) → AwaitsPar book c → AwaitsPar (book ++ settles_in t c book) c
unfolding settles_corporation
settled_awaits t c book awaits =
    let Awaits : Book → Type 0 = λ b. AwaitsPar b c in
    let floats = float_if_due c (t.pars c) (has_floated t.progress c) in
    let settled = book ++ presidency c book in
    go_on Awaits (presidency c) (floats ∷ []) book
    (go_last Awaits floats settled
    (awaits_still c settled (settled ++ floats settled) (spares_float c c (t.pars c) (has_floated t.progress c) settled)
    (awaits_still c book settled (offered_spares c book awaits.offered) awaits)))

pub swap_awaits : (t : Situation) (s : Seat) (source : ShareSource) (book : Book) → is_at (holder book (C.Private Private.Mh)) (L.Seat s) ≡ true → AwaitsPar book Corp.Nyc → AwaitsPar (book ++ swaps t s source book) Corp.Nyc
unfolding swaps
swap_awaits t s source book has awaits =
    let Awaits : Book → Type 0 = λ b. AwaitsPar b Corp.Nyc in
    let say = says (A.Swap s source) in
    let gives = gives_up_private s source in
    let settles = settles_in t Corp.Nyc in
    let told = book ++ say book in
    let given = told ++ gives told in
    let spared = spares_step Corp.Nyc (M.Act (A.Swap s source)) book in
    let low : (r : Seat) → share (holder told) (L.Seat r) Corp.Nyc ≤ 10 =
    λ r.
    let was : promised (holder book) Corp.Nyc ≡ 10 = ap (λ (b : Bool). cond {A = ℕ} b 0 10) (not_gone (holder book (C.Private Private.Mh)) s has) in
    let had = awaits.low r in
    let same = share_untouched Corp.Nyc book told (L.Seat r) spared in
    omega arith in
    go_on Awaits say (gives ∷ settles ∷ []) book
    (go_on Awaits gives (settles ∷ []) told
    (go_last Awaits settles given (settled_awaits t Corp.Nyc given (private_awaits s source told (awaits_still Corp.Nyc book told spared awaits) low))))
