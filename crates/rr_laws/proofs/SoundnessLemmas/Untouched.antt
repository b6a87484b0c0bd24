-- Corporations that entries leave alone.
use Rattle.std.specs.Prelude.{◌≡◌, ℕ, zero, suc, ◌+◌, ◌*◌, ◌≤◌, Bool, true, false, cond, ◌&&◌, ◌==◌, ◌⊎◌, List, [], ◌∷◌, ◌++◌, Option, None, Some, find, map, option_and_then, refl, if◌then◌else◌, count_by, slice_index_or}
use Rattle.std.proofs.Common.{sym, ◌∙◌, ap, subst, arith, append_assoc, append-nil, inl, inr}
use Rattle.std.proofs.Math.Path.{fun_ext}
use Rattle.std.proofs.lemmas.Bool.{eqb-true, false≢true}
use Rattle.rr_roster.specs.declared.company.Private.{Private}
use Rattle.rr_roster.specs.declared.company.Corp.{Corp}
use Rattle.rr_roster.specs.Company.{corp_index}
use Rattle.rr_roster.specs.Terms.{Terms, income_of}
use Rattle.rr_books.specs.declared.parties.Money.{Money}
use Rattle.rr_books.specs.declared.parties.Party.{Party}
use Rattle.rr_books.specs.declared.parties.Party.TheVariants as P
use Rattle.rr_books.specs.declared.parties.Seat.{Seat}
use Rattle.rr_books.specs.declared.parties.Place.{Place}
use Rattle.rr_books.specs.declared.parties.Place.TheVariants as L
use Rattle.rr_books.specs.declared.certificates.ShareNumber.{ShareNumber}
use Rattle.rr_books.specs.declared.certificates.Cert.{Cert}
use Rattle.rr_books.specs.declared.certificates.Cert.TheVariants as C
use Rattle.rr_books.specs.declared.certificates.Train.{Train}
use Rattle.rr_books.specs.declared.entries.Cell.{Cell}
use Rattle.rr_books.specs.declared.entries.Entry.{Entry}
use Rattle.rr_books.specs.declared.entries.Entry.TheVariants as E
use Rattle.rr_books.specs.declared.entries.Marker.{Marker}
use Rattle.rr_books.specs.declared.entries.Marker.TheVariants as M
use Rattle.rr_books.specs.Book.{Book, holder, holder-push, holder_after, players}
use Rattle.rr_books.specs.Same.{same_cert, same_corp, same_place, share_number}
use Rattle.rr_books.specs.Shares.{Holders, is_at, share, share_numbers}
use Rattle.rr_books.specs.ShareLaws.{share-parts}
use Rattle.rr_desk.specs.Effects.{Effect, adds, in_turn, moves_if, moves_lowest_share}
use Rattle.rr_desk.specs.Incomes.{dollars, owner, pay_incomes_of, pays_if, pays_income}
use Rattle.rr_shares.specs.declared.succession.Handover.{Handover}
use Rattle.rr_shares.specs.Succession.{handover_after_sale, handover_due}
use Rattle.rr_shares.specs.Effects.{float, float_if_due, float_of, floats_now, hands_over, hands_over_if, moves_lowest_shares, presidency, presidency_after_sale, sale_shares}
use Rattle.rr_market.specs.Marks.{cell_after, mark_of}
use Rattle.rr_market.specs.MarkLaws.{mark_of-push}
use Rattle.rr_market.specs.Moves.{mark_at, moves_token}
use Rattle.rr_shares.specs.Presidents.{NobodyHasMore}
use Rattle.rr_rounds.specs.Bids.Unsold.{is_unsold}
use Rattle.rr_laws.specs.Soundness.Presidencies.{AwaitsPar, IsLed, IsOffered, promised}

-- as entries follow on a book, a corporation's 20% certificate stays, its token isn't put on the chart, no private
-- promises more of it, and none comes back to the offering
pub record KeepsOffer (c : Corp) (old new : Book) : Type 0 where
  pub president : holder new (C.President c) ≡ holder old (C.President c)
  pub unmarked : mark_of old c ≡ None → mark_of new c ≡ None
  pub promises : promised (holder new) c ≤ promised (holder old) c
  pub unsold : (p : Private) → is_unsold (holder new) p ≡ true → is_unsold (holder old) p ≡ true

-- and so do its 10% certificates
pub record IsUntouched (c : Corp) (old new : Book) : Type 0 where
  pub keeps : KeepsOffer c old new
  pub shares : (m : ShareNumber) → holder new (C.Share c m) ≡ holder old (C.Share c m)

equal : (m n : ℕ) → m ≡ n → m ≤ n
equal m n e = omega arith

within : (k m n : ℕ) → k ≤ m → m ≤ n → k ≤ n
within k m n h g = omega arith

pub keeps_same : (c : Corp) (book : Book) → KeepsOffer c book book
keeps_same c book = record { president = refl; unmarked = λ h. h; promises = equal _ _ refl; unsold = λ p h. h }

pub keeps_both : (c : Corp) (a b d : Book) → KeepsOffer c a b → KeepsOffer c b d → KeepsOffer c a d
keeps_both c a b d h k = record {
  president = k.president ∙ h.president;
  unmarked = λ e. k.unmarked (h.unmarked e);
  promises = within _ _ _ k.promises h.promises;
  unsold = λ p e. h.unsold p (k.unsold p e);
}

pub untouched_same : (c : Corp) (book : Book) → IsUntouched c book book
untouched_same c book = record { keeps = keeps_same c book; shares = λ m. refl }

pub untouched_both : (c : Corp) (a b d : Book) → IsUntouched c a b → IsUntouched c b d → IsUntouched c a d
untouched_both c a b d h k = record { keeps = keeps_both c a b d h.keeps k.keeps; shares = λ m. k.shares m ∙ h.shares m }

-- whatever the book
abbrev pub Spares : Corp → Effect → Type 0
Spares c f = (book : Book) → IsUntouched c book (book ++ f book)

pub spares_none : (c : Corp) → Spares c (in_turn [])
spares_none c book =
    let So : Book → Type 0 = λ b. IsUntouched c book b in
    subst So (sym (append-nil book)) (untouched_same c book)

pub spares_then : (c : Corp) (f : Effect) (fs : List Effect) → Spares c f → Spares c (in_turn fs) → Spares c (in_turn (f ∷ fs))
spares_then c f fs h k book =
    let So : Book → Type 0 = λ b. IsUntouched c book b in
    let later = book ++ f book in
    subst So (append_assoc book (f book) (in_turn fs later)) (untouched_both c book later (later ++ in_turn fs later) (h book) (k later))

pub spares_one : (c : Corp) (f : Effect) → Spares c f → Spares c (in_turn (f ∷ []))
spares_one c f h = spares_then c f [] h (spares_none c)

pub spares_two : (c : Corp) (f g : Effect) → Spares c f → Spares c g → Spares c (in_turn (f ∷ g ∷ []))
spares_two c f g h k = spares_then c f (g ∷ []) h (spares_one c g k)

pub spares_three : (c : Corp) (f g i : Effect) → Spares c f → Spares c g → Spares c i → Spares c (in_turn (f ∷ g ∷ i ∷ []))
spares_three c f g i h k l = spares_then c f (g ∷ i ∷ []) h (spares_two c g i k l)

-- who holds what after one entry
abbrev pub held_after : Book → Entry → Holders
held_after book e x = holder_after x (holder book x) e

holders_after : (book : Book) (e : Entry) → holder (book ++ e ∷ []) ≡ held_after book e
holders_after book e = fun_ext (λ (x : Cert). holder-push book e x)

-- one entry
keeps_by : (c : Corp) (book : Book) (e : Entry) → held_after book e (C.President c) ≡ holder book (C.President c) → (mark_of book c ≡ None → cell_after c (mark_of book c) e ≡ None)
    → promised (held_after book e) c ≤ promised (holder book) c → ((p : Private) → is_unsold (held_after book e) p ≡ true → is_unsold (holder book) p ≡ true)
    → KeepsOffer c book (book ++ e ∷ [])
keeps_by c book e president unmarked promises unsold =
    let held = holders_after book e in
    let Fewer : Holders → Type 0 = λ H. promised H c ≤ promised (holder book) c in
    let Stays : Holders → Type 0 = λ H. (p : Private) → is_unsold H p ≡ true → is_unsold (holder book) p ≡ true in
    record {
      president = holder-push book e (C.President c) ∙ president;
      unmarked = λ h. mark_of-push book e c ∙ unmarked h;
      promises = subst Fewer (sym held) promises;
      unsold = subst Stays (sym held) unsold;
    }

untouched_by : (c : Corp) (book : Book) (e : Entry) → KeepsOffer c book (book ++ e ∷ []) → ((m : ShareNumber) → held_after book e (C.Share c m) ≡ holder book (C.Share c m)) → IsUntouched c book (book ++ e ∷ [])
untouched_by c book e keeps shares = record { keeps = keeps; shares = λ m. holder-push book e (C.Share c m) ∙ shares m }

-- where the privates stay, as much is promised
promised_still : (H K : Holders) (c : Corp) → ((p : Private) → K (C.Private p) ≡ H (C.Private p)) → promised K c ≤ promised H c
promised_still H K Corp.Prr h = equal _ _ (ap (λ (x : Option Place). cond {A = ℕ} (is_at x L.Offer) 10 0) (h Private.Ca))
promised_still H K Corp.Nyc h = equal _ _ (ap (λ (x : Option Place). cond {A = ℕ} (is_at x L.Gone) 0 10) (h Private.Mh))
promised_still H K Corp.Cpr h = equal _ _ refl
promised_still H K Corp.Bo h = equal _ _ refl
promised_still H K Corp.Co h = equal _ _ refl
promised_still H K Corp.Erie h = equal _ _ refl
promised_still H K Corp.Nynh h = equal _ _ refl
promised_still H K Corp.Bm h = equal _ _ refl

fewer : (a b : Bool) → (a ≡ true → b ≡ true) → cond {A = ℕ} a 10 0 ≤ cond {A = ℕ} b 10 0
fewer false b h = let low = none_below b in omega arith
  where
    none_below : (d : Bool) → 0 ≤ cond {A = ℕ} d 10 0
    none_below true = omega arith
    none_below false = omega arith
fewer true b h = equal _ _ (ap (λ (d : Bool). cond {A = ℕ} d 10 0) (sym (h refl)))

fewer_unless : (a b : Bool) → (b ≡ true → a ≡ true) → cond {A = ℕ} a 0 10 ≤ cond {A = ℕ} b 0 10
fewer_unless a false h = let high = ten_above a in omega arith
  where
    ten_above : (d : Bool) → cond {A = ℕ} d 0 10 ≤ 10
    ten_above true = omega arith
    ten_above false = omega arith
fewer_unless a true h = equal _ _ (ap (λ (d : Bool). cond {A = ℕ} d 0 10) (h refl))

-- where the C&A doesn't come back, nor the M&H, no more is promised
pub promised_by : (H K : Holders) (c : Corp) → (is_at (K (C.Private Private.Ca)) L.Offer ≡ true → is_at (H (C.Private Private.Ca)) L.Offer ≡ true) → (is_at (H (C.Private Private.Mh)) L.Gone ≡ true → is_at (K (C.Private Private.Mh)) L.Gone ≡ true)
    → promised K c ≤ promised H c
promised_by H K Corp.Prr h g = fewer _ _ h
promised_by H K Corp.Nyc h g = fewer_unless _ _ g
promised_by H K Corp.Cpr h g = equal _ _ refl
promised_by H K Corp.Bo h g = equal _ _ refl
promised_by H K Corp.Co h g = equal _ _ refl
promised_by H K Corp.Erie h g = equal _ _ refl
promised_by H K Corp.Nynh h g = equal _ _ refl
promised_by H K Corp.Bm h g = equal _ _ refl

-- a step of the game, a payment
pub spares_step : (c : Corp) (marker : Marker) → Spares c (adds (E.Step marker))
spares_step c marker book =
    let e = E.Step marker in
    untouched_by c book e (keeps_by c book e refl (λ h. h) (promised_still (holder book) (held_after book e) c (λ p. refl)) (λ p h. h)) (λ m. refl)

pub spares_pay : (c : Corp) (from to : Party) (amount : Money) → Spares c (adds (E.Pay from to amount))
spares_pay c from to amount book =
    let e = E.Pay from to amount in
    untouched_by c book e (keeps_by c book e refl (λ h. h) (promised_still (holder book) (held_after book e) c (λ p. refl)) (λ p h. h)) (λ m. refl)

-- a train that changes hands, a tile, a token, and a run with its certificate
pub spares_train : (c : Corp) (train : Train) (to : Place) → Spares c (adds (E.Train train to))
spares_train c train to book =
    let e = E.Train train to in
    untouched_by c book e (keeps_by c book e refl (λ h. h) (promised_still (holder book) (held_after book e) c (λ p. refl)) (λ p h. h)) (λ m. refl)

pub spares_lay : (c : Corp) (hex : List ℕ) (tile turn : ℕ) → Spares c (adds (E.Lay hex tile turn))
spares_lay c hex tile turn book =
    let e = E.Lay hex tile turn in
    untouched_by c book e (keeps_by c book e refl (λ h. h) (promised_still (holder book) (held_after book e) c (λ p. refl)) (λ p h. h)) (λ m. refl)

pub spares_station : (c : Corp) (d : Corp) (hex : List ℕ) (centre : ℕ) → Spares c (adds (E.Station d hex centre))
spares_station c d hex centre book =
    let e = E.Station d hex centre in
    untouched_by c book e (keeps_by c book e refl (λ h. h) (promised_still (holder book) (held_after book e) c (λ p. refl)) (λ p h. h)) (λ m. refl)

pub spares_best : (c : Corp) (d : Corp) (sheet certificate : List ℕ) → Spares c (adds (E.Best d sheet certificate))
spares_best c d sheet certificate book =
    let e = E.Best d sheet certificate in
    untouched_by c book e (keeps_by c book e refl (λ h. h) (promised_still (holder book) (held_after book e) c (λ p. refl)) (λ p h. h)) (λ m. refl)

-- a mark of another corporation
pub marked_other : (c d : Corp) (cell : Cell) (book : Book) → (mark_of book c ≡ None → cell_after c (mark_of book c) (E.Mark d cell) ≡ None) → IsUntouched c book (book ++ E.Mark d cell ∷ [])
marked_other c d cell book unmarked =
    let e = E.Mark d cell in
    untouched_by c book e (keeps_by c book e refl unmarked (promised_still (holder book) (held_after book e) c (λ p. refl)) (λ p h. h)) (λ m. refl)

-- a 10% certificate keeps the offer of each corporation
keeps_by_share : (c d : Corp) (m : ShareNumber) (to : Place) (book : Book) → KeepsOffer c book (book ++ E.Move (C.Share d m) to ∷ [])
keeps_by_share c d m to book =
    let e = E.Move (C.Share d m) to in
    keeps_by c book e refl (λ h. h) (promised_still (holder book) (held_after book e) c (λ p. refl)) (λ p h. h)

moved_share : (c d : Corp) (m : ShareNumber) (to : Place) (book : Book) → same_corp c d ≡ false → IsUntouched c book (book ++ E.Move (C.Share d m) to ∷ [])
moved_share c d m to book apart =
    untouched_by c book (E.Move (C.Share d m) to) (keeps_by_share c d m to book)
    (λ k. ap (λ (b : Bool). cond (b && (share_number k == share_number m)) (Some to) (holder book (C.Share c k))) apart)

-- the 20% certificate of another corporation
pub spares_president : (c d : Corp) (to : Place) → same_corp c d ≡ false → Spares c (adds (E.Move (C.President d) to))
spares_president c d to apart book =
    let e = E.Move (C.President d) to in
    untouched_by c book e
    (keeps_by c book e (ap (λ (b : Bool). cond b (Some to) (holder book (C.President c))) apart) (λ h. h) (promised_still (holder book) (held_after book e) c (λ p. refl)) (λ p h. h)) (λ m. refl)

-- a private that goes to a seat, or out of the game
pub sold_before : (b : Bool) (to : Place) (x : Option Place) → same_place to L.Offer ≡ false → is_at (cond b (Some to) x) L.Offer ≡ true → is_at x L.Offer ≡ true
sold_before true to x away h = absurd (false≢true (sym away ∙ h))
sold_before false to x away h = h

pub moved_private : (c : Corp) (p : Private) (to : Place) (book : Book) → same_place to L.Offer ≡ false → promised (held_after book (E.Move (C.Private p) to)) c ≤ promised (holder book) c → IsUntouched c book (book ++ E.Move (C.Private p) to ∷ [])
moved_private c p to book away fewer =
    let e = E.Move (C.Private p) to in
    untouched_by c book e
    (keeps_by c book e refl (λ h. h) fewer (λ q h. sold_before (same_cert (C.Private q) (C.Private p)) to (holder book (C.Private q)) away h)) (λ m. refl)

-- the lowest of another corporation's 10% certificates
first_moved : (test : Cert → Bool) (c d : Corp) (to : Place) (book : Book) (ns : List ShareNumber) → same_corp c d ≡ false → IsUntouched c book (book ++ moves_if (find test (map (λ n. C.Share d n) ns)) to)
first_moved test c d to book [] apart = spares_none c book
first_moved test c d to book (n ∷ ns) apart =
    elim (test (C.Share d n)) as (λ b. IsUntouched c book (book ++ moves_if (cond b (Some (C.Share d n)) (find test (map (λ k. C.Share d k) ns))) to)) [
      | true ↦ moved_share c d n to book apart
      | false ↦ first_moved test c d to book ns apart
    ]

pub spares_lowest : (c d : Corp) (from to : Place) → same_corp c d ≡ false → Spares c (moves_lowest_share d from to)
spares_lowest c d from to apart book = first_moved (λ cert. is_at (holder book cert) from) c d to book share_numbers apart

-- or of its own
first_kept : (test : Cert → Bool) (c d : Corp) (to : Place) (book : Book) (ns : List ShareNumber) → KeepsOffer c book (book ++ moves_if (find test (map (λ n. C.Share d n) ns)) to)
first_kept test c d to book [] = let same = spares_none c book in same.keeps
first_kept test c d to book (n ∷ ns) =
    elim (test (C.Share d n)) as (λ b. KeepsOffer c book (book ++ moves_if (cond b (Some (C.Share d n)) (find test (map (λ k. C.Share d k) ns))) to)) [
      | true ↦ keeps_by_share c d n to book
      | false ↦ first_kept test c d to book ns
    ]

pub lowest_kept : (c d : Corp) (from to : Place) (book : Book) → KeepsOffer c book (book ++ moves_lowest_share d from to book)
lowest_kept c d from to book = first_kept (λ cert. is_at (holder book cert) from) c d to book share_numbers

spares_several : (c d : Corp) (n : ℕ) (from to : Place) → same_corp c d ≡ false → Spares c (moves_lowest_shares d n from to)
unfolding moves_lowest_shares
spares_several c d zero from to apart = spares_none c
spares_several c d (suc n) from to apart =
    spares_two c (moves_lowest_shares d n from to) (moves_lowest_share d from to) (spares_several c d n from to apart) (spares_lowest c d from to apart)

-- handovers of another corporation
spares_handover : (c d : Corp) (h : Option Handover) → same_corp c d ≡ false → Spares c (hands_over_if d h)
unfolding hands_over
spares_handover c d None apart = spares_none c
spares_handover c d (Some h) apart =
    spares_two c (moves_lowest_shares d 2 (L.Seat h.to) (L.Seat h.from)) (adds (E.Move (C.President d) (L.Seat h.to))) (spares_several c d 2 (L.Seat h.to) (L.Seat h.from) apart)
    (spares_president c d (L.Seat h.to) apart)

pub spares_presidency : (c d : Corp) → same_corp c d ≡ false → Spares c (presidency d)
unfolding presidency
spares_presidency c d apart book = spares_handover c d (handover_due (holder book) (players book) d) apart book

spares_after_sale : (c d : Corp) (s : Seat) (n : ℕ) → same_corp c d ≡ false → Spares c (presidency_after_sale d s n)
unfolding presidency_after_sale
spares_after_sale c d s n apart book = spares_handover c d (handover_after_sale (holder book) (players book) d s n) apart book

pub spares_sale : (c d : Corp) (s : Seat) (n : ℕ) → same_corp c d ≡ false → Spares c (sale_shares d s n)
unfolding sale_shares
spares_sale c d s n apart =
    spares_two c (presidency_after_sale d s n) (moves_lowest_shares d n (L.Seat s) L.Pool) (spares_after_sale c d s n apart) (spares_several c d n (L.Seat s) L.Pool apart)

-- a float
spares_float_of : (c d : Corp) (par : Option ℕ) → Spares c (float_of d par)
unfolding float
spares_float_of c d None = spares_none c
spares_float_of c d (Some par) =
    spares_two c (adds (E.Pay P.Bank (P.Corp d) (dollars (10 * par)))) (adds (E.Step (M.Float d))) (spares_pay c P.Bank (P.Corp d) (dollars (10 * par))) (spares_step c (M.Float d))

spares_chosen : (c : Corp) (b : Bool) (f : Effect) → Spares c f → Spares c (if b then f else in_turn [])
spares_chosen c true f h = h
spares_chosen c false f h = spares_none c

pub spares_float : (c d : Corp) (par : Option ℕ) (floated : Bool) → Spares c (float_if_due d par floated)
unfolding float_if_due
spares_float c d par floated book = spares_chosen c (floats_now (holder book) d par floated) (float_of d par) (spares_float_of c d par) book

-- incomes
spares_paid : (c : Corp) (o : Option Party) (amount : ℕ) → Spares c (pays_if o amount)
spares_paid c None amount = spares_none c
spares_paid c (Some party) amount = spares_pay c P.Bank party (dollars amount)

spares_income : (c : Corp) (roster : Terms) (p : Private) → Spares c (pays_income roster p)
unfolding pays_income
spares_income c roster p book = spares_paid c (owner (players book) (holder book (C.Private p))) (income_of roster p) book

pub spares_incomes : (c : Corp) (roster : Terms) (ps : List Private) → Spares c (pay_incomes_of roster ps)
unfolding pay_incomes_of
spares_incomes c roster [] = spares_none c
spares_incomes c roster (p ∷ ps) = spares_then c (pays_income roster p) (map (pays_income roster) ps) (spares_income c roster p) (spares_incomes c roster ps)

-- the mark of another corporation, if there is one
pub spares_mark : (c d : Corp) (cell : Option Cell) (book : Book) → same_corp c d ≡ false → IsUntouched c book (book ++ mark_at d cell)
spares_mark c d None book apart = spares_none c book
spares_mark c d (Some cell) book apart = marked_other c d cell book (λ h. ap (λ (b : Bool). cond b (Some cell) (mark_of book c)) apart ∙ h)

-- the index tells the corporation
corps : List Corp
corps = Corp.Prr ∷ Corp.Nyc ∷ Corp.Cpr ∷ Corp.Bo ∷ Corp.Co ∷ Corp.Erie ∷ Corp.Nynh ∷ Corp.Bm ∷ []

corp_told : (c : Corp) → slice_index_or corps (corp_index c) Corp.Prr ≡ c
unfolding corps
corp_told Corp.Prr = refl
corp_told Corp.Nyc = refl
corp_told Corp.Cpr = refl
corp_told Corp.Bo = refl
corp_told Corp.Co = refl
corp_told Corp.Erie = refl
corp_told Corp.Nynh = refl
corp_told Corp.Bm = refl

pub same_is : (c d : Corp) → same_corp c d ≡ true → c ≡ d
same_is c d h = sym (corp_told c) ∙ ap (λ (n : ℕ). slice_index_or corps n Corp.Prr) (eqb-true (corp_index c) (corp_index d) h) ∙ corp_told d

-- a token that moves was on the chart
none_is_some : {X : Type 0} (x : X) → Some x ≡ None → ⊥
none_is_some x e = cc

pub spares_token : (target : Cell → Option Cell) (c d : Corp) → Spares c (moves_token target d)
spares_token target c d book = by_mark (mark_of book d) refl
  where
    unmarked_by : (cell from : Cell) → mark_of book d ≡ Some from → (b : Bool) → same_corp c d ≡ b → mark_of book c ≡ None → cond b (Some cell) (mark_of book c) ≡ None
    unmarked_by cell from e false other h = h
    unmarked_by cell from e true same h = absurd (none_is_some from (sym e ∙ ap (λ (x : Corp). mark_of book x) (sym (same_is c d same)) ∙ h))

    by_target : (from : Cell) (to : Option Cell) → mark_of book d ≡ Some from → IsUntouched c book (book ++ mark_at d to)
    by_target from None e = spares_none c book
    by_target from (Some cell) e = marked_other c d cell book (λ h. unmarked_by cell from e (same_corp c d) refl h)

    by_mark : (o : Option Cell) → mark_of book d ≡ o → IsUntouched c book (book ++ mark_at d (option_and_then target o))
    by_mark None e = spares_none c book
    by_mark (Some from) e = by_target from (target from) e

-- so a corporation that is untouched has the same shares at each place
pub share_untouched : (c : Corp) (old new : Book) (place : Place) → IsUntouched c old new → share (holder new) place c ≡ share (holder old) place c
share_untouched c old new place h =
    let keeps = h.keeps in
    let numbered : (λ (n : ShareNumber). holder new (C.Share c n)) ≡ (λ (n : ShareNumber). holder old (C.Share c n)) = fun_ext (λ (n : ShareNumber). h.shares n) in
    share-parts (holder new) place c
    ∙ ap (λ (x : Option Place). cond (is_at x place) 20 0 + 10 * count_by (λ n. is_at (holder new (C.Share c n)) place) share_numbers) keeps.president
    ∙ ap (λ (f : ShareNumber → Option Place). cond (is_at (holder old (C.President c)) place) 20 0 + 10 * count_by (λ n. is_at (f n) place) share_numbers) numbered
    ∙ sym (share-parts (holder old) place c)

-- it still awaits its par
pub awaits_still : (c : Corp) (old new : Book) → IsUntouched c old new → AwaitsPar old c → AwaitsPar new c
awaits_still c old new h awaits =
    let keeps = h.keeps in
    record {
      offered = keeps.president ∙ awaits.offered;
      unmarked = keeps.unmarked awaits.unmarked;
      low = λ s.
          let same = share_untouched c old new (L.Seat s) h in
          let fewer = keeps.promises in
          let had = awaits.low s in
          omega arith;
    }

-- or is led by the same president
pub leads_still : (n : ℕ) (c : Corp) (old new : Book) (p : Seat) → IsUntouched c old new → NobodyHasMore old c n p → NobodyHasMore new c n p
leads_still n c old new p h most s at =
    let its = share_untouched c old new (L.Seat s) h in
    let own = share_untouched c old new (L.Seat p) h in
    let had = most s at in
    omega arith

pub led_still : (n : ℕ) (c : Corp) (old new : Book) → IsUntouched c old new → IsLed n old c → IsLed n new c
led_still n c old new h led =
    let keeps = h.keeps in
    record { seat = led.seat; at_table = led.at_table; presides = keeps.president ∙ led.presides; leads = leads_still n c old new led.seat h led.leads }

pub governed_still : (n : ℕ) (c : Corp) (old new : Book) → IsUntouched c old new → AwaitsPar old c ⊎ IsLed n old c → AwaitsPar new c ⊎ IsLed n new c
governed_still n c old new h (inl awaits) = inl (awaits_still c old new h awaits)
governed_still n c old new h (inr led) = inr (led_still n c old new h led)

-- a corporation whose 20% certificate is in the offering awaits its par
pub awaiting : (n : ℕ) (book : Book) (c : Corp) → AwaitsPar book c ⊎ IsLed n book c → IsOffered book c → AwaitsPar book c
awaiting n book c (inl awaits) offered = awaits
awaiting n book c (inr led) offered = absurd (apart led.seat (sym led.presides ∙ offered))
  where
    apart : (s : Seat) → Some (L.Seat s) ≡ Some L.Offer → ⊥
    apart s e = let same : L.Seat s ≡ L.Offer = cc in false≢true (ap at_offer same)
      where
        at_offer : Place → Bool
        at_offer x = is_at (Some x) L.Offer
