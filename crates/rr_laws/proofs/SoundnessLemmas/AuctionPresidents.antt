-- Lawful acts of the auction leave each corporation awaiting its par or led by its president.
use Rattle.std.specs.Prelude.{◌≡◌, ℕ, ◌<◌, nat_lt, Bool, true, false, cond, not, ◌&&◌, List, [], ◌∷◌, ◌++◌, Option, None, Some, is_some, map, refl, if◌then◌else◌}
use Rattle.std.specs.List.{list_all}
use Rattle.std.proofs.Common.{sym, ◌∙◌, ap, subst, arith, append_assoc, append-nil, inl, inr}
use Rattle.std.proofs.Math.Path.{fun_ext}
use Rattle.std.proofs.lemmas.Bool.{and_parts, eq-eqb, false≢true}
use Rattle.std.proofs.lemmas.Bool.Decides.{nat_tests}
use Rattle.std.proofs.lemmas.List.{append_cancel_left}
use Rattle.std.proofs.lemmas.List.Folds.{list_all-append}
use Rattle.rr_roster.specs.declared.company.Private.{Private}
use Rattle.rr_roster.specs.declared.company.Corp.{Corp}
use Rattle.rr_roster.specs.Company.{private_index}
use Rattle.rr_roster.specs.Terms.{Terms}
use Rattle.rr_roster.specs.Chart.Chart as charts
use Rattle.rr_books.specs.declared.parties.Money.{Money}
use Rattle.rr_books.specs.declared.parties.Party.TheVariants as P
use Rattle.rr_books.specs.declared.parties.Seat.{Seat}
use Rattle.rr_books.specs.declared.parties.Place.{Place}
use Rattle.rr_books.specs.declared.parties.Place.TheVariants as L
use Rattle.rr_books.specs.declared.certificates.Cert.{Cert}
use Rattle.rr_books.specs.declared.certificates.Cert.TheVariants as C
use Rattle.rr_books.specs.declared.entries.Cell.{Cell}
use Rattle.rr_books.specs.declared.entries.Entry.TheVariants as E
use Rattle.rr_books.specs.declared.entries.Marker.TheVariants as M
use Rattle.rr_books.specs.declared.acts.Act.{Act}
use Rattle.rr_books.specs.declared.acts.Act.TheVariants as A
use Rattle.rr_books.specs.Book.{Book, holder, holder-push, players}
use Rattle.rr_books.specs.Same.{same_seat}
use Rattle.rr_books.specs.Shares.{Holders, is_at, privates, share}
use Rattle.rr_books.specs.Totals.{pays_among}
use Rattle.rr_desk.specs.Effects.{Effect, adds, in_turn, moves_lowest_share}
use Rattle.rr_desk.specs.Incomes.{dollars}
use Rattle.rr_market.specs.Moves.{mark_at, par_marks}
use Rattle.rr_rounds.specs.Bids.Bids.{bids_on, sole_bidder}
use Rattle.rr_books.specs.declared.refusal.Refusal.TheVariants as F
use Rattle.rr_auction.specs.Effects.{brings_incomes, entries_of, gift, incomes_if, is_over, may_end, pass_of, purchase_of, said, sale, sale_at_bid, sets_par, settle, settle_each, settled, settles, stock_begins}
use Rattle.rr_rounds.specs.Bids.Progress.{Progress, after_act, after_bid, after_last_pass, after_par, after_pass, after_turn_pass, all_pass, follow, owing_after, progress, raise_due}
use Rattle.rr_auction.specs.Rules.{due, is_bo, par_verdict, price, verdict}
use Rattle.rr_auction.specs.SoundMoney.{with_act}
use Rattle.rr_rounds.specs.Bids.Unsold.{cheapest, is_private, is_unsold, same_private}
use Rattle.rr_auction.proofs.Bidders.{cheapest_unsold}
use Rattle.rr_auction.proofs.Covers.{IsCoveredBook, GoesOn}
use Rattle.rr_rounds.specs.Bids.ProgressLaws.{progress-append}
use Rattle.rr_auction.proofs.LawfulActs.{goes_by_acts}
use Rattle.rr_auction.proofs.Quiet.{gift_still, incomes_still}
use Rattle.rr_stock.proofs.SaleVerdicts.{passed}
use Rattle.rr_laws.specs.Soundness.Presidencies.{AwaitsPar, IsGoverned, IsGovernedInAuction, IsLed, promised}
use Rattle.rr_laws.proofs.SoundnessLemmas.Gaining.{goes_there, more_by_lowest, taken_leads}
use Rattle.rr_laws.proofs.SoundnessLemmas.Untouched.{IsUntouched, Spares, awaiting, awaits_still, governed_still, held_after, keeps_both, led_still, lowest_kept, moved_private, promised_by, share_untouched, sold_before, spares_incomes, spares_lowest, spares_mark, spares_none, spares_pay, spares_president, spares_step, untouched_both}

-- no more owes the B&O a par than before
abbrev OwesNoMore : Book → Book → Type 0
OwesNoMore old new = is_some (progress new).par_due ≡ true → is_some (progress old).par_due ≡ true

owes_by : (book es : Book) → (is_some (follow book (progress book) es).par_due ≡ true → is_some (progress book).par_due ≡ true) → OwesNoMore book (book ++ es)
owes_by book es h owes = h (sym (ap (λ (a : Progress). is_some a.par_due) (progress-append book es)) ∙ owes)

-- entries that touch no corporation
governed_on : (n : ℕ) (old new : Book) → ((c : Corp) → IsUntouched c old new) → OwesNoMore old new → IsGovernedInAuction n old → IsGovernedInAuction n new
governed_on n old new spared owes h =
    let prr = spared Corp.Prr in
    let bo = spared Corp.Bo in
    let prr_keeps = prr.keeps in
    let bo_keeps = bo.keeps in
    record {
      governed = λ c. governed_still n c old new (spared c) (h.governed c);
      pennsylvania = λ e. prr_keeps.president ∙ h.pennsylvania (prr_keeps.unsold Private.Ca e);
      baltimore = λ e. bo_keeps.president ∙ h.baltimore (bo_keeps.unsold Private.Bo e);
      par_due = λ e. led_still n Corp.Bo old new bo (h.par_due (owes e));
    }

-- an effect that pays among the parties of the table leaves it so
abbrev Keeps : ℕ → Effect → Type 0
Keeps n f = (book : Book) → list_all (pays_among n) (f book) ≡ true → IsGovernedInAuction n book → IsGovernedInAuction n (book ++ f book)

keep_none : (n : ℕ) → Keeps n (in_turn [])
keep_none n book among h =
    let So : Book → Type 0 = λ b. IsGovernedInAuction n b in
    subst So (sym (append-nil book)) h

keep_then : (n : ℕ) (f : Effect) (fs : List Effect) (book : Book) → list_all (pays_among n) (in_turn (f ∷ fs) book) ≡ true
    → (list_all (pays_among n) (f book) ≡ true → IsGovernedInAuction n (book ++ f book))
    → (list_all (pays_among n) (in_turn fs (book ++ f book)) ≡ true → IsGovernedInAuction n (book ++ f book) → IsGovernedInAuction n ((book ++ f book) ++ in_turn fs (book ++ f book)))
    → IsGovernedInAuction n (book ++ in_turn (f ∷ fs) book)
keep_then n f fs book among first others =
    let So : Book → Type 0 = λ b. IsGovernedInAuction n b in
    let later = book ++ f book in
    let parts = and_parts (list_all (pays_among n) (f book)) (list_all (pays_among n) (in_turn fs later)) (sym (list_all-append (pays_among n) (f book) (in_turn fs later)) ∙ among) in
    subst So (append_assoc book (f book) (in_turn fs later)) (others parts.1 (first parts.0))

keeps_then : (n : ℕ) (f : Effect) (fs : List Effect) → Keeps n f → Keeps n (in_turn fs) → Keeps n (in_turn (f ∷ fs))
keeps_then n f fs first others book among h = keep_then n f fs book among (λ a. first book a h) (λ a later. others (book ++ f book) a later)

keeps_one : (n : ℕ) (f : Effect) → Keeps n f → Keeps n (in_turn (f ∷ []))
keeps_one n f h = keeps_then n f [] h (keep_none n)

keeps_two : (n : ℕ) (f g : Effect) → Keeps n f → Keeps n g → Keeps n (in_turn (f ∷ g ∷ []))
keeps_two n f g h k = keeps_then n f (g ∷ []) h (keeps_one n g k)

-- steps of the game
keeps_quiet : (n : ℕ) (f : Effect) → ((c : Corp) → Spares c f) → ((book : Book) → OwesNoMore book (book ++ f book)) → Keeps n f
keeps_quiet n f spared owes book among h = governed_on n book (book ++ f book) (λ c. spared c book) (owes book) h

owing_after_turn_pass : (n : ℕ) (last : Bool) (o : Option Private) (s : Seat) (a : Progress) → is_some (if last then after_last_pass n s o a else after_turn_pass n s a).par_due ≡ true → is_some a.par_due ≡ true
owing_after_turn_pass n true o s a h = h
owing_after_turn_pass n false o s a h = h

owing_after_pass : (n : ℕ) (raising : Bool) (o : Option Private) (s : Seat) (a : Progress) → is_some (after_pass n raising o s a).par_due ≡ true → is_some a.par_due ≡ true
owing_after_pass n true None s a h = h
owing_after_pass n true (Some p) s a h = h
owing_after_pass n false o s a h = owing_after_turn_pass n (all_pass n a) o s a h

owing_after_bid : (n : ℕ) (raising : Bool) (s : Seat) (p : Private) (m : ℕ) (a : Progress) → is_some (after_bid n raising s p m a).par_due ≡ true → is_some a.par_due ≡ true
owing_after_bid n true s p m a h = h
owing_after_bid n false s p m a h = h

owing_after_par : (c : Corp) (a : Progress) → is_some (after_par c a).par_due ≡ true → is_some a.par_due ≡ true
owing_after_par Corp.Bo a h = absurd (false≢true h)
owing_after_par _ a h = h

owing_after_act : (n : ℕ) (H : Holders) (a : Progress) (act : Act) → is_some (after_act n H a act).par_due ≡ true → is_some a.par_due ≡ true
owing_after_act n H a (A.BuyPrivate s) h = h
owing_after_act n H a (A.Bid s p m) h = owing_after_bid n (is_some (raise_due H a)) s p m a h
owing_after_act n H a (A.Pass s) h = owing_after_pass n (is_some (raise_due H a)) (cheapest H) s a h
owing_after_act n H a (A.Par s c m) h = owing_after_par c a h
owing_after_act n H a _ h = h

keeps_act : (n : ℕ) (act : Act) → Keeps n (adds (E.Step (M.Act act)))
keeps_act n act =
    keeps_quiet n (adds (E.Step (M.Act act))) (λ c. spares_step c (M.Act act))
    (λ book. owes_by book (E.Step (M.Act act) ∷ []) (owing_after_act (players book) (holder book) (progress book) act))

begins_kept : (n : ℕ) (b : Bool) → Keeps n (stock_begins b)
begins_kept n true = keeps_quiet n (adds (E.Step M.Stock)) (λ c. spares_step c M.Stock) (λ book. owes_by book (E.Step M.Stock ∷ []) (λ h. h))
begins_kept n false = keep_none n

end_kept : (n : ℕ) → Keeps n may_end
unfolding may_end
end_kept n book = begins_kept n (is_over (due book)) book

incomes_kept : (n : ℕ) (roster : Terms) (b : Bool) → Keeps n (incomes_if roster b)
incomes_kept n roster false = keep_none n
incomes_kept n roster true =
    keeps_quiet n (incomes_if roster true) (λ c. spares_incomes c roster privates)
    (λ book. owes_by book (incomes_if roster true book) (λ h. sym (ap (λ (a : Progress). is_some a.par_due) (incomes_still roster book (progress book) privates)) ∙ h))

-- what is unsold is in the offering, and not gone
not_gone : (x : Option Place) → is_at x L.Offer ≡ true → is_at x L.Gone ≡ false
not_gone None h = refl
not_gone (Some (L.Seat s)) h = refl
not_gone (Some (L.Corp c)) h = refl
not_gone (Some L.Offer) h = refl
not_gone (Some L.Pool) h = refl
not_gone (Some L.Gone) h = absurd (false≢true h)

-- a private that is sold leaves each corporation alone
kept_gone : (p : Private) (s : Seat) (book : Book) → is_unsold (holder book) p ≡ true → is_at (holder book (C.Private Private.Mh)) L.Gone ≡ true → is_at (held_after book (E.Move (C.Private p) (L.Seat s)) (C.Private Private.Mh)) L.Gone ≡ true
kept_gone Private.Mh s book unsold h = absurd (false≢true (sym (not_gone (holder book (C.Private Private.Mh)) unsold) ∙ h))
kept_gone _ s book unsold h = h

title_spares : (c : Corp) (p : Private) (s : Seat) (book : Book) → is_unsold (holder book) p ≡ true → IsUntouched c book (book ++ E.Move (C.Private p) (L.Seat s) ∷ [])
title_spares c p s book unsold =
    moved_private c p (L.Seat s) book refl
    (promised_by (holder book) (held_after book (E.Move (C.Private p) (L.Seat s))) c (λ h. sold_before _ (L.Seat s) (holder book (C.Private Private.Ca)) refl h) (kept_gone p s book unsold))

-- a book once a private is a seat's and paid for
abbrev paid_for : Book → Private → Seat → Money → Book
paid_for book p s m = (book ++ E.Move (C.Private p) (L.Seat s) ∷ []) ++ E.Pay (P.Seat s) P.Bank m ∷ []

sold_book : (book : Book) (s : Seat) (p : Private) (m : Money) → book ++ sale s p m book ≡ paid_for book p s m ++ gift p s (paid_for book p s m)
unfolding sale
sold_book book s p m =
    let move = E.Move (C.Private p) (L.Seat s) ∷ [] in
    let pay = E.Pay (P.Seat s) P.Bank m ∷ [] in
    let given = gift p s (paid_for book p s m) in
    sym (append_assoc book move (pay ++ (given ++ [])))
    ∙ sym (append_assoc (book ++ move) pay (given ++ []))
    ∙ ap (λ (es : Book). paid_for book p s m ++ es) (append-nil given)

paid_spares : (c : Corp) (p : Private) (s : Seat) (m : Money) (book : Book) → is_unsold (holder book) p ≡ true → IsUntouched c book (paid_for book p s m)
paid_spares c p s m book unsold =
    let titled = book ++ E.Move (C.Private p) (L.Seat s) ∷ [] in
    untouched_both c book titled (paid_for book p s m) (title_spares c p s book unsold) (spares_pay c (P.Seat s) P.Bank m titled)

-- the private is the seat's
own_private : (p : Private) (s : Seat) (m : Money) (book : Book) → holder (paid_for book p s m) (C.Private p) ≡ Some (L.Seat s)
own_private p s m book =
    let move = E.Move (C.Private p) (L.Seat s) in
    holder-push (book ++ move ∷ []) (E.Pay (P.Seat s) P.Bank m) (C.Private p)
    ∙ holder-push book move (C.Private p)
    ∙ ap (λ (b : Bool). cond b (Some (L.Seat s)) (holder book (C.Private p))) (eq-eqb (private_index p) (private_index p) refl)

-- who pays is at the table
payer_there : (n : ℕ) (s : Seat) (p : Private) (m : Money) (book : Book) → list_all (pays_among n) (sale s p m book) ≡ true → s.0 < n
unfolding sale
payer_there n s p m book among =
    let paid = and_parts ((nat_lt s.0 n) && true) _ among in
    let seat = and_parts (nat_lt s.0 n) true paid.0 in
    let there = seat.0 in
    grind (arith, nat_tests)

-- what the C&A brings leaves the PRR awaiting its par
pennsylvania_given : (n : ℕ) (s : Seat) (m : Money) (book : Book) → is_unsold (holder book) Private.Ca ≡ true → IsGovernedInAuction n book → AwaitsPar (paid_for book Private.Ca s m ++ gift Private.Ca s (paid_for book Private.Ca s m)) Corp.Prr
unfolding gift
pennsylvania_given n s m book unsold h =
    let paid = paid_for book Private.Ca s m in
    let new = paid ++ moves_lowest_share Corp.Prr L.Offer (L.Seat s) paid in
    let awaits = awaiting n book Corp.Prr (h.governed Corp.Prr) (h.pennsylvania unsold) in
    let spared = paid_spares Corp.Prr Private.Ca s m book unsold in
    let last = lowest_kept Corp.Prr Corp.Prr L.Offer (L.Seat s) paid in
    let keeps = keeps_both Corp.Prr book paid new spared.keeps last in
    record {
      offered = keeps.president ∙ awaits.offered;
      unmarked = keeps.unmarked awaits.unmarked;
      low = λ t.
          let more = more_by_lowest Corp.Prr L.Offer (L.Seat s) (L.Seat t) paid in
          let same = share_untouched Corp.Prr book paid (L.Seat t) spared in
          let had = awaits.low t in
          let was : promised (holder book) Corp.Prr ≡ 10 = ap (λ (b : Bool). cond {A = ℕ} b 10 0) unsold in
          let now : promised (holder paid) Corp.Prr ≡ 0 = ap (λ (x : Option Place). cond {A = ℕ} (is_at x L.Offer) 10 0) (own_private Private.Ca s m book) in
          let fewer = last.promises in
          omega arith;
    }

pennsylvania_governed : (n : ℕ) (s : Seat) (m : Money) (book : Book) → is_unsold (holder book) Private.Ca ≡ true → IsGovernedInAuction n book → IsGoverned n (paid_for book Private.Ca s m ++ gift Private.Ca s (paid_for book Private.Ca s m))
unfolding gift
pennsylvania_governed n s m book unsold h Corp.Prr = inl (pennsylvania_given n s m book unsold h)
pennsylvania_governed n s m book unsold h c =
    let paid = paid_for book Private.Ca s m in
    let new = paid ++ moves_lowest_share Corp.Prr L.Offer (L.Seat s) paid in
    governed_still n c book new (untouched_both c book paid new (paid_spares c Private.Ca s m book unsold) (spares_lowest c Corp.Prr L.Offer (L.Seat s) refl paid)) (h.governed c)

-- what the B&O brings makes its owner president
baltimore_given : (n : ℕ) (s : Seat) (m : Money) (book : Book) → s.0 < n → is_unsold (holder book) Private.Bo ≡ true → IsGovernedInAuction n book → IsLed n (paid_for book Private.Bo s m ++ gift Private.Bo s (paid_for book Private.Bo s m)) Corp.Bo
unfolding gift
baltimore_given n s m book at unsold h =
    let paid = paid_for book Private.Bo s m in
    let awaits = awaiting n book Corp.Bo (h.governed Corp.Bo) (h.baltimore unsold) in
    let later = awaits_still Corp.Bo book paid (paid_spares Corp.Bo Private.Bo s m book unsold) awaits in
    record {
      seat = s;
      at_table = at;
      presides = goes_there Corp.Bo (L.Seat s) paid;
      leads = taken_leads n paid Corp.Bo s later.offered (λ t. let had = later.low t in omega arith);
    }

baltimore_governed : (n : ℕ) (s : Seat) (m : Money) (book : Book) → s.0 < n → is_unsold (holder book) Private.Bo ≡ true → IsGovernedInAuction n book → IsGoverned n (paid_for book Private.Bo s m ++ gift Private.Bo s (paid_for book Private.Bo s m))
unfolding gift
baltimore_governed n s m book at unsold h Corp.Bo = inr (baltimore_given n s m book at unsold h)
baltimore_governed n s m book at unsold h c =
    let paid = paid_for book Private.Bo s m in
    let new = paid ++ E.Move (C.President Corp.Bo) (L.Seat s) ∷ [] in
    governed_still n c book new (untouched_both c book paid new (paid_spares c Private.Bo s m book unsold) (spares_president c Corp.Bo (L.Seat s) refl paid)) (h.governed c)

-- another sale than that of the B&O makes no one owe a par
owing_unless : (p : Private) (s : Seat) (o : Option Seat) → same_private p Private.Bo ≡ false → is_some (owing_after p s o) ≡ true → is_some o ≡ true
owing_unless Private.Bo s o other h = absurd (false≢true (sym other))
owing_unless _ s o other h = h

sale_owes : (p : Private) (s : Seat) (m : Money) (book : Book) → same_private p Private.Bo ≡ false → OwesNoMore book (paid_for book p s m ++ gift p s (paid_for book p s m))
sale_owes p s m book other h =
    let move = E.Move (C.Private p) (L.Seat s) in
    let pay = E.Pay (P.Seat s) P.Bank m in
    let titled = book ++ move ∷ [] in
    let paid = paid_for book p s m in
    owes_by book (move ∷ []) (λ e. owing_unless p s (progress book).par_due other e)
    (owes_by titled (pay ∷ []) (λ e. e)
    (owes_by paid (gift p s paid) (λ e. sym (ap (λ (a : Progress). is_some a.par_due) (gift_still p s paid (progress paid))) ∙ e) h))

-- a sale to a seat of the table
sold_quiet : (n : ℕ) (p : Private) (s : Seat) (m : Money) (book : Book) → same_private p Private.Bo ≡ false → gift p s (paid_for book p s m) ≡ [] → is_unsold (holder book) p ≡ true → IsGovernedInAuction n book → IsGovernedInAuction n (paid_for book p s m ++ gift p s (paid_for book p s m))
sold_quiet n p s m book other none unsold h =
    let paid = paid_for book p s m in
    let new = paid ++ gift p s paid in
    let Spared : Corp → Book → Type 0 = λ c es. IsUntouched c paid (paid ++ es) in
    governed_on n book new (λ c. untouched_both c book paid new (paid_spares c p s m book unsold) (subst (Spared c) (sym none) (spares_none c paid))) (sale_owes p s m book other) h

sold_kept : (n : ℕ) (p : Private) (s : Seat) (m : Money) (book : Book) → s.0 < n → is_unsold (holder book) p ≡ true → IsGovernedInAuction n book → IsGovernedInAuction n (paid_for book p s m ++ gift p s (paid_for book p s m))
unfolding gift
sold_kept n Private.Ca s m book at unsold h =
    let paid = paid_for book Private.Ca s m in
    let new = paid ++ moves_lowest_share Corp.Prr L.Offer (L.Seat s) paid in
    let given = pennsylvania_given n s m book unsold h in
    let bo = untouched_both Corp.Bo book paid new (paid_spares Corp.Bo Private.Ca s m book unsold) (spares_lowest Corp.Bo Corp.Prr L.Offer (L.Seat s) refl paid) in
    let keeps = bo.keeps in
    record {
      governed = pennsylvania_governed n s m book unsold h;
      pennsylvania = λ e. given.offered;
      baltimore = λ e. keeps.president ∙ h.baltimore (keeps.unsold Private.Bo e);
      par_due = λ e. led_still n Corp.Bo book new bo (h.par_due (sale_owes Private.Ca s m book refl e));
    }
sold_kept n Private.Bo s m book at unsold h =
    let paid = paid_for book Private.Bo s m in
    let new = paid ++ E.Move (C.President Corp.Bo) (L.Seat s) ∷ [] in
    let last = spares_president Corp.Prr Corp.Bo (L.Seat s) refl paid in
    let gone = last.keeps in
    let prr = untouched_both Corp.Prr book paid new (paid_spares Corp.Prr Private.Bo s m book unsold) last in
    let keeps = prr.keeps in
    let sold : is_unsold (holder paid) Private.Bo ≡ false = ap (λ (x : Option Place). is_at x L.Offer) (own_private Private.Bo s m book) in
    record {
      governed = baltimore_governed n s m book at unsold h;
      pennsylvania = λ e. keeps.president ∙ h.pennsylvania (keeps.unsold Private.Ca e);
      baltimore = λ e. absurd (false≢true (sym sold ∙ gone.unsold Private.Bo e));
      par_due = λ e. baltimore_given n s m book at unsold h;
    }
sold_kept n Private.Sv s m book at unsold h = sold_quiet n Private.Sv s m book refl refl unsold h
sold_kept n Private.Csl s m book at unsold h = sold_quiet n Private.Csl s m book refl refl unsold h
sold_kept n Private.Dh s m book at unsold h = sold_quiet n Private.Dh s m book refl refl unsold h
sold_kept n Private.Mh s m book at unsold h = sold_quiet n Private.Mh s m book refl refl unsold h

sale_kept : (n : ℕ) (s : Seat) (p : Private) (m : Money) (book : Book) → is_unsold (holder book) p ≡ true → list_all (pays_among n) (sale s p m book) ≡ true → IsGovernedInAuction n book → IsGovernedInAuction n (book ++ sale s p m book)
sale_kept n s p m book unsold among h =
    let So : Book → Type 0 = λ b. IsGovernedInAuction n b in
    subst So (sym (sold_book book s p m)) (sold_kept n p s m book (payer_there n s p m book among) unsold h)

-- what is settled behind a command
settles_kept : (n : ℕ) (p : Private) → Keeps n (settles p)
unfolding settles
settles_kept n p book among h = by_cheapest (is_private p (cheapest (holder book))) refl among
  where
    by_sole : (o : Option Seat) → is_unsold (holder book) p ≡ true → list_all (pays_among n) (sale_at_bid p (bids_on (progress book).bids p) o book) ≡ true → IsGovernedInAuction n (book ++ sale_at_bid p (bids_on (progress book).bids p) o book)
    by_sole None unsold paid = keep_none n book paid h
    by_sole (Some s) unsold paid = sale_kept n s p _ book unsold paid h

    by_cheapest : (b : Bool) → is_private p (cheapest (holder book)) ≡ b → list_all (pays_among n) (settled p b (bids_on (progress book).bids p) book) ≡ true → IsGovernedInAuction n (book ++ settled p b (bids_on (progress book).bids p) book)
    by_cheapest false e paid = keep_none n book paid h
    by_cheapest true e paid = by_sole (sole_bidder (bids_on (progress book).bids p)) (cheapest_unsold (holder book) p e) paid

each_kept : (n : ℕ) (ps : List Private) → Keeps n (settle_each ps)
unfolding settle_each
each_kept n [] = keep_none n
each_kept n (p ∷ ps) = keeps_then n (settles p) (map settles ps) (settles_kept n p) (each_kept n ps)

settle_kept : (n : ℕ) → Keeps n settle
unfolding settle
settle_kept n = keeps_two n (settle_each privates) may_end (each_kept n privates) (end_kept n)

purchase_kept : (n : ℕ) (roster : Terms) (s : Seat) (falls : ℕ) (book : Book) (o : Option Private) → cheapest (holder book) ≡ o → list_all (pays_among n) (purchase_of roster s falls o book) ≡ true → IsGovernedInAuction n book → IsGovernedInAuction n (book ++ purchase_of roster s falls o book)
purchase_kept n roster s falls book None e among h = keep_none n book among h
purchase_kept n roster s falls book (Some p) e among h =
    let act = A.BuyPrivate s in
    let buy = sale s p (dollars (price roster falls p)) in
    let later = book ++ E.Step (M.Act act) ∷ [] in
    let first : is_private p (cheapest (holder book)) ≡ true = ap (is_private p) e ∙ eq-eqb (private_index p) (private_index p) refl in
    let unsold : is_unsold (holder later) p ≡ true = ap (λ (x : Option Place). is_at x L.Offer) (holder-push book (E.Step (M.Act act)) (C.Private p)) ∙ cheapest_unsold (holder book) p first in
    keep_then n (adds (E.Step (M.Act act))) (buy ∷ settle ∷ []) book among (λ a. keeps_act n act book a h)
    (λ a said. keep_then n buy (settle ∷ []) later a (λ b. sale_kept n s p (dollars (price roster falls p)) later unsold b said) (λ b sold. keeps_one n settle (settle_kept n) (later ++ buy later) b sold))

said_kept : (n : ℕ) (act : Act) → Keeps n (said act)
said_kept n act = keeps_two n (adds (E.Step (M.Act act))) settle (keeps_act n act) (settle_kept n)

pass_kept : (n : ℕ) (roster : Terms) (s : Seat) (brings : Bool) → Keeps n (pass_of roster s brings)
pass_kept n roster s brings =
    keeps_then n (adds (E.Step (M.Act (A.Pass s)))) (settle ∷ incomes_if roster brings ∷ []) (keeps_act n (A.Pass s)) (keeps_two n settle (incomes_if roster brings) (settle_kept n) (incomes_kept n roster brings))

-- the B&O's token is put on the chart while it has a president
led_by_holders : (n : ℕ) (old new : Book) (c : Corp) → ((x : Cert) → holder new x ≡ holder old x) → IsLed n old c → IsLed n new c
led_by_holders n old new c same led =
    let held : holder new ≡ holder old = fun_ext (λ (x : Cert). same x) in
    record {
      seat = led.seat;
      at_table = led.at_table;
      presides = same (C.President c) ∙ led.presides;
      leads = λ s at.
          let its = ap (λ (H : Holders). share H (L.Seat s) c) held in
          let own = ap (λ (H : Holders). share H (L.Seat led.seat) c) held in
          let had = led.leads s at in
          omega arith;
    }

marked_governed : (n : ℕ) (cell : Cell) (book : Book) → IsLed n book Corp.Bo → IsGovernedInAuction n book → IsGoverned n (book ++ E.Mark Corp.Bo cell ∷ [])
marked_governed n cell book led h Corp.Bo = inr (led_by_holders n book (book ++ E.Mark Corp.Bo cell ∷ []) Corp.Bo (λ x. holder-push book (E.Mark Corp.Bo cell) x) led)
marked_governed n cell book led h c = governed_still n c book (book ++ E.Mark Corp.Bo cell ∷ []) (spares_mark c Corp.Bo (Some cell) book refl) (h.governed c)

marked_kept : (n : ℕ) (cell : Option Cell) (book : Book) → IsLed n book Corp.Bo → IsGovernedInAuction n book → IsGovernedInAuction n (book ++ mark_at Corp.Bo cell)
marked_kept n None book led h =
    let So : Book → Type 0 = λ b. IsGovernedInAuction n b in
    subst So (sym (append-nil book)) h
marked_kept n (Some cell) book led h =
    let e = E.Mark Corp.Bo cell in
    let new = book ++ e ∷ [] in
    let prr = spares_mark Corp.Prr Corp.Bo (Some cell) book refl in
    let keeps = prr.keeps in
    record {
      governed = marked_governed n cell book led h;
      pennsylvania = λ unsold. keeps.president ∙ h.pennsylvania (keeps.unsold Private.Ca unsold);
      baltimore = λ unsold. holder-push book e (C.President Corp.Bo) ∙ h.baltimore (keeps.unsold Private.Bo unsold);
      par_due = λ due. led_by_holders n book new Corp.Bo (λ x. holder-push book e x) led;
    }

not_refused : (b : Bool) → not b ≡ false → b ≡ true
not_refused true e = refl
not_refused false e = absurd (false≢true (sym e))

-- its par is set only while it is due
par_is_due : (rows : List charts.Row) (o : Option Seat) (s : Seat) (c : Corp) (m : ℕ) → par_verdict rows o s c m ≡ None → (is_some o ≡ true) × (is_bo c ≡ true)
par_is_due rows None s c m e = absurd (cc)
par_is_due rows (Some owing) s c m e =
    let turn = passed (not (same_seat s owing)) F.NotYourTurn _ e in
    let named = passed (not (is_bo c)) F.NotForSale _ turn.1 in
    (refl, not_refused (is_bo c) named.0)

baltimore_par_kept : (n : ℕ) (rows : List charts.Row) (s : Seat) (m : ℕ) (book : Book) → is_some (progress book).par_due ≡ true → list_all (pays_among n) (sets_par rows s Corp.Bo m book) ≡ true → IsGovernedInAuction n book → IsGovernedInAuction n (book ++ sets_par rows s Corp.Bo m book)
baltimore_par_kept n rows s m book due among h =
    let act = A.Par s Corp.Bo m in
    let mark = par_marks rows Corp.Bo m in
    let later = book ++ E.Step (M.Act act) ∷ [] in
    let led = led_still n Corp.Bo book later (spares_step Corp.Bo (M.Act act) book) (h.par_due due) in
    keep_then n (adds (E.Step (M.Act act))) (mark ∷ settle ∷ []) book among (λ a. keeps_act n act book a h)
    (λ a said. keep_then n mark (settle ∷ []) later a (λ b. marked_kept n _ later led said) (λ b marked. keeps_one n settle (settle_kept n) (later ++ mark later) b marked))

par_kept : (n : ℕ) (rows : List charts.Row) (s : Seat) (c : Corp) (m : ℕ) (book : Book) → is_bo c ≡ true → is_some (progress book).par_due ≡ true → list_all (pays_among n) (sets_par rows s c m book) ≡ true → IsGovernedInAuction n book → IsGovernedInAuction n (book ++ sets_par rows s c m book)
par_kept n rows s Corp.Bo m book is due among h = baltimore_par_kept n rows s m book due among h
par_kept n rows s _ m book is due among h = absurd (false≢true is)

act_kept : (n : ℕ) (roster : Terms) (rows : List charts.Row) (book : Book) (act : Act) → verdict roster rows book act ≡ None → list_all (pays_among n) (entries_of roster rows book act) ≡ true → IsGovernedInAuction n book → IsGovernedInAuction n (book ++ entries_of roster rows book act)
act_kept n roster rows book (A.BuyPrivate s) lawful among h = purchase_kept n roster s (progress book).falls book (cheapest (holder book)) refl among h
act_kept n roster rows book (A.Bid s p m) lawful among h = said_kept n (A.Bid s p m) book among h
act_kept n roster rows book (A.Pass s) lawful among h = pass_kept n roster s (brings_incomes (players book) (holder book) (progress book)) book among h
act_kept n roster rows book (A.Par s c m) lawful among h =
    let due = par_is_due rows (progress book).par_due s c m lawful in
    par_kept n rows s c m book due.1 due.0 among h
act_kept n roster rows book _ lawful among h = keep_none n book among h

-- a lawful act pays among the parties of a covered table, which stays covered
covered_act : (n : ℕ) (roster : Terms) (rows : List charts.Row) (book : Book) (act : Act) → verdict roster rows book act ≡ None → IsCoveredBook n book → GoesOn n book (entries_of roster rows book act)
covered_act n roster rows book act lawful covered =
    let es = entries_of roster rows book act in
    let all = goes_by_acts n roster rows (act ∷ []) book covered (lawful, tt) in
    let So : Book → Type 0 = λ more. GoesOn n book more in
    subst So (sym (append_cancel_left book es all.0 all.1)) all.2

pub covered_by_act : (n : ℕ) (roster : Terms) (rows : List charts.Row) (book : Book) (act : Act) → verdict roster rows book act ≡ None → IsCoveredBook n book → IsCoveredBook n (with_act roster rows book act)
covered_by_act n roster rows book act lawful covered = let on = covered_act n roster rows book act lawful covered in on.later

-- each lawful act of the auction
pub governed_by_act : (n : ℕ) (roster : Terms) (rows : List charts.Row) (book : Book) (act : Act) → verdict roster rows book act ≡ None → IsCoveredBook n book → IsGovernedInAuction n book → IsGovernedInAuction n (with_act roster rows book act)
governed_by_act n roster rows book act lawful covered h =
    let on = covered_act n roster rows book act lawful covered in
    act_kept n roster rows book act lawful on.among h
