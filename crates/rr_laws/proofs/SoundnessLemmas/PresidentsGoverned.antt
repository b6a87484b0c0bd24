-- Presidents as a table opens, and through the auction.
use Rattle.std.specs.Prelude.{◌≡◌, ℕ, ◌≤◌, Bool, true, false, cond, ◌⊎◌, List, [], ◌∷◌, ◌++◌, Option, None, Some, fold, is_some, length, map, refl}
use Rattle.std.specs.List.{flat_map, range_with_len}
use Rattle.std.proofs.Common.{sym, ◌∙◌, ap, arith, inl, inr}
use Rattle.std.proofs.Math.Path.{fun_ext}
use Rattle.std.proofs.lemmas.Bool.{false≢true}
use Rattle.std.proofs.lemmas.List.Sums.{fold-append}
use Rattle.rr_roster.specs.declared.company.Private.{Private}
use Rattle.rr_roster.specs.declared.company.Corp.{Corp}
use Rattle.rr_roster.specs.Terms.{Terms, IsOrder, order_of}
use Rattle.rr_roster.specs.Chart.Chart.{Row}
use Rattle.rr_books.specs.declared.parties.Place.TheVariants as L
use Rattle.rr_books.specs.declared.certificates.Cert.{Cert}
use Rattle.rr_books.specs.declared.certificates.Cert.TheVariants as C
use Rattle.rr_books.specs.declared.certificates.Train.{Train}
use Rattle.rr_books.specs.declared.entries.Cell.{Cell}
use Rattle.rr_books.specs.declared.entries.Entry.TheVariants as E
use Rattle.rr_books.specs.declared.entries.Marker.TheVariants as M
use Rattle.rr_books.specs.declared.acts.Act.{Act}
use Rattle.rr_books.specs.Book.{Book, holder, holder-append, holder-push}
use Rattle.rr_books.specs.Opening.{kinds, opening_entries, opening_moves, opening_payments, opening_trains, start_of, trains_of}
use Rattle.rr_books.specs.Shares.{Holders, certificates, is_at, share}
use Rattle.rr_books.specs.ShareLaws.{share-parts}
use Rattle.rr_books.proofs.OpeningPlaces.{certificate_among, moves-holder, trains-holder}
use Rattle.rr_market.specs.Marks.{cell_after, mark_of}
use Rattle.rr_market.specs.MarkLaws.{mark_of-push}
use Rattle.rr_auction.specs.Opening.{opened}
use Rattle.rr_rounds.specs.Bids.Progress.{Progress, beginning, progress}
use Rattle.rr_auction.specs.SoundMoney as auctions
use Rattle.rr_auction.proofs.Covers.{IsCoveredBook}
use Rattle.rr_auction.proofs.Openings.{begins}
use Rattle.rr_laws.specs.Soundness.Presidencies.{AwaitsPar, HasGreatestPresidents, IsGoverned, IsGovernedInAuction, IsLed, IsOffered, promised}
use Rattle.rr_laws.proofs.SoundnessLemmas.AuctionPresidents.{covered_by_act, governed_by_act}

-- at the opening each certificate is in the offering
pub offered_at_first : (names : List (List ℕ)) (roster : Terms) (cert : Cert) → IsOrder (order_of roster) → holder (opened names roster) cert ≡ Some L.Offer
unfolding opening_payments opening_moves opening_trains
offered_at_first names roster cert order =
    let n = length names in
    holder-push (opening_entries n roster) (E.Step (M.Auction names)) cert
    ∙ holder-append (opening_payments n ++ opening_moves roster) (opening_trains roster) cert
    ∙ trains-holder cert (flat_map (trains_of roster) kinds) _
    ∙ holder-append (opening_payments n) (opening_moves roster) cert
    ∙ moves-holder cert (certificates (order_of roster)) _
    ∙ ap (λ (b : Bool). cond b (Some L.Offer) (holder (opening_payments n) cert)) (certificate_among cert (order_of roster) order)

-- and no token is on the chart
starts_unmarked : (c : Corp) (x : Option Cell) (n : ℕ) (ks : List ℕ) → fold (cell_after c) x (map (start_of n) ks) ≡ x
starts_unmarked c x n [] = refl
starts_unmarked c x n (k ∷ ks) = starts_unmarked c x n ks

moves_unmarked : (c : Corp) (x : Option Cell) (certs : List Cert) → fold (cell_after c) x (map (λ d. E.Move d L.Offer) certs) ≡ x
moves_unmarked c x [] = refl
moves_unmarked c x (d ∷ certs) = moves_unmarked c x certs

trains_unmarked : (c : Corp) (x : Option Cell) (trains : List Train) → fold (cell_after c) x (map (λ t. E.Train t L.Offer) trains) ≡ x
trains_unmarked c x [] = refl
trains_unmarked c x (t ∷ trains) = trains_unmarked c x trains

unmarked_at_first : (names : List (List ℕ)) (roster : Terms) (c : Corp) → mark_of (opened names roster) c ≡ None
unfolding opening_payments opening_moves opening_trains mark_of
unmarked_at_first names roster c =
    let n = length names in
    mark_of-push (opening_entries n roster) (E.Step (M.Auction names)) c
    ∙ fold-append (cell_after c) None (opening_payments n ++ opening_moves roster) (opening_trains roster)
    ∙ trains_unmarked c _ (flat_map (trains_of roster) kinds)
    ∙ fold-append (cell_after c) None (opening_payments n) (opening_moves roster)
    ∙ moves_unmarked c _ (certificates (order_of roster))
    ∙ starts_unmarked c None n (range_with_len 0 n)

promised_ten : (H : Holders) (c : Corp) → promised H c ≤ 10
promised_ten H Corp.Prr = by_test (is_at (H (C.Private Private.Ca)) L.Offer)
  where
    by_test : (b : Bool) → cond {A = ℕ} b 10 0 ≤ 10
    by_test true = omega arith
    by_test false = omega arith
promised_ten H Corp.Nyc = by_test (is_at (H (C.Private Private.Mh)) L.Gone)
  where
    by_test : (b : Bool) → cond {A = ℕ} b 0 10 ≤ 10
    by_test true = omega arith
    by_test false = omega arith
promised_ten H _ = omega arith

awaits_at_first : (names : List (List ℕ)) (roster : Terms) (c : Corp) → IsOrder (order_of roster) → AwaitsPar (opened names roster) c
awaits_at_first names roster c order = record {
  offered = offered_at_first names roster (C.President c) order;
  unmarked = unmarked_at_first names roster c;
  low = λ s.
      let all_offered : Holders = λ x. Some L.Offer in
      let held : holder (opened names roster) ≡ all_offered = fun_ext (λ (x : Cert). offered_at_first names roster x order) in
      let none = ap (λ (H : Holders). share H (L.Seat s) c) held ∙ share-parts all_offered (L.Seat s) c in
      let few = promised_ten (holder (opened names roster)) c in
      omega arith;
}

-- so a table that opens is governed
pub governed_at_first : (n : ℕ) (names : List (List ℕ)) (roster : Terms) → IsOrder (order_of roster) → IsGovernedInAuction n (opened names roster)
governed_at_first n names roster order =
    let begun : progress (opened names roster) ≡ beginning = begins names roster beginning refl in
    record {
      governed = λ c. inl (awaits_at_first names roster c order);
      pennsylvania = λ e. offered_at_first names roster (C.President Corp.Prr) order;
      baltimore = λ e. offered_at_first names roster (C.President Corp.Bo) order;
      par_due = λ due. absurd (false≢true (sym (ap (λ (a : Progress). is_some a.par_due) begun) ∙ due));
    }

-- whatever lawful acts the auction takes
pub governed_by_bids : (n : ℕ) (roster : Terms) (rows : List Row) (bids : List Act) (book : Book) → auctions.AreLawful roster rows book bids → IsCoveredBook n book → IsGovernedInAuction n book
    → IsCoveredBook n (auctions.with_acts roster rows book bids) × IsGovernedInAuction n (auctions.with_acts roster rows book bids)
governed_by_bids n roster rows [] book lawful covered h = (covered, h)
governed_by_bids n roster rows (act ∷ bids) book lawful covered h =
    governed_by_bids n roster rows bids (auctions.with_act roster rows book act) lawful.1 (covered_by_act n roster rows book act lawful.0 covered)
    (governed_by_act n roster rows book act lawful.0 covered h)

-- nobody has more than the president
greatest : (n : ℕ) (book : Book) (c : Corp) → AwaitsPar book c ⊎ IsLed n book c → IsOffered book c ⊎ IsLed n book c
greatest n book c (inl awaits) = inl awaits.offered
greatest n book c (inr led) = inr led

pub greatest_where_governed : (n : ℕ) (book : Book) → IsGoverned n book → HasGreatestPresidents n book
greatest_where_governed n book h c = greatest n book c (h c)
