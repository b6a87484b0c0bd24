-- The position of a table that opens.
use Rattle.std.proofs.Common.{◌≡◌, ℕ, Bool, true, false, not, ◌&&◌, List, [], ◌∷◌, ◌++◌, map, refl, ◌∙◌, ap}
use Rattle.std.specs.List.{flat_map, list_all, range_with_len}
use Rattle.std.proofs.lemmas.List.Folds.{list_all-append}
use Rattle.rr_roster.specs.Terms.{Terms, order_of}
use Rattle.rr_books.specs.declared.parties.Party.{Party}
use Rattle.rr_books.specs.declared.parties.Money.{Money}
use Rattle.rr_books.specs.declared.parties.Place.TheVariants as L
use Rattle.rr_books.specs.declared.certificates.Cert.{Cert}
use Rattle.rr_books.specs.declared.certificates.Train.{Train}
use Rattle.rr_books.specs.declared.entries.Entry.{Entry}
use Rattle.rr_books.specs.declared.entries.Entry.TheVariants as E
use Rattle.rr_books.specs.declared.entries.Marker.TheVariants as M
use Rattle.rr_books.specs.Book.{Book}
use Rattle.rr_books.specs.Opening.{kinds, opening_entries, opening_moves, opening_payments, opening_trains, start_of, trains_of}
use Rattle.rr_books.specs.Shares.{certificates}
use Rattle.rr_books.specs.State.{State as Tables, IsStateOf}
use Rattle.rr_books.specs.StateLaws.{stays}
use Rattle.rr_rounds.specs.Bids.Progress.{IsBiddingOf}
use Rattle.rr_market.specs.MarkLaws.{has_no_mark, is_mark}
use Rattle.rr_market.specs.State.{State as Tokens, IsMarketOf}
use Rattle.rr_market.specs.StateLaws.{stays_through, stays as market_stays}
use Rattle.rr_rounds.specs.Round.{Round, IsRoundOf}
use Rattle.rr_market.specs.Operations.Due.{IsOperationsOf}
use Rattle.rr_desk.specs.Layout.Layout.{IsLayoutOf, puts_nothing}
use Rattle.rr_desk.proofs.LayoutLemmas.LayoutLemmas.{puts_nothing_through}
use Rattle.rr_desk.specs.Position.Position.{OnTable, IsPositionOf}

-- each entry of an opening is so where the payments, the moves to the offer and the trains on offer are
mapped : {X : Type 0} (so : Entry → Bool) (g : X → Entry) → ((x : X) → so (g x) ≡ true) → (xs : List X) → list_all so (map g xs) ≡ true
mapped so g h [] = refl
mapped so g h (x ∷ xs) = rw (h x) (mapped so g h xs)

both : (so : Entry → Bool) (xs ys : Book) → list_all so xs ≡ true → list_all so ys ≡ true → list_all so (xs ++ ys) ≡ true
both so xs ys h k = list_all-append so xs ys ∙ ap (λ (b : Bool). b && list_all so ys) h ∙ k

each_of_opening : (so : Entry → Bool) → ((from to : Party) (amount : Money) → so (E.Pay from to amount) ≡ true) → ((c : Cert) → so (E.Move c L.Offer) ≡ true) → ((t : Train) → so (E.Train t L.Offer) ≡ true)
    → (n : ℕ) (roster : Terms) → list_all so (opening_entries n roster) ≡ true
unfolding opening_payments opening_moves opening_trains
each_of_opening so pays moves trains n roster =
    both so (opening_payments n ++ opening_moves roster) (opening_trains roster)
    (both so (opening_payments n) (opening_moves roster) (mapped so (start_of n) (λ k. pays _ _ _) (range_with_len 0 n)) (mapped so (λ c. E.Move c L.Offer) moves (certificates (order_of roster))))
    (mapped so (λ t. E.Train t L.Offer) trains (flat_map (trains_of roster) kinds))

opening_unmarked : (n : ℕ) (roster : Terms) → has_no_mark (opening_entries n roster) ≡ true
opening_unmarked n roster = each_of_opening (λ e. not (is_mark e)) (λ from to amount. refl) (λ c. refl) (λ t. refl) n roster

opening_puts_nothing : (n : ℕ) (roster : Terms) → list_all puts_nothing (opening_entries n roster) ≡ true
opening_puts_nothing n roster = each_of_opening puts_nothing (λ from to amount. refl) (λ c. refl) (λ t. refl) n roster

-- the table opens
pub stands_opened : (n : ℕ) (roster : Terms) (p : OnTable) → IsStateOf (opening_entries n roster) p.books → IsBiddingOf (opening_entries n roster) p.bidding → IsMarketOf [] p.market → IsRoundOf (opening_entries n roster) p.rounds → IsOperationsOf (opening_entries n roster) p.operations → IsLayoutOf [] p.layout → IsPositionOf (opening_entries n roster) p
stands_opened n roster p books bidding market rounds operations layout = record {
  books = books;
  bidding = bidding;
  market = stays_through [] (opening_entries n roster) p.market (opening_unmarked n roster) market;
  rounds = rounds;
  operations = operations;
  layout = puts_nothing_through [] (opening_entries n roster) p.layout (opening_puts_nothing n roster) layout;
}

-- and its auction begins
pub stands_begun : (n : ℕ) (roster : Terms) (names : List (List ℕ)) (p : OnTable) → IsPositionOf (opening_entries n roster) p → IsBiddingOf (opening_entries n roster ++ E.Step (M.Auction names) ∷ []) p.bidding → IsRoundOf (opening_entries n roster ++ E.Step (M.Auction names) ∷ []) p.rounds → IsOperationsOf (opening_entries n roster ++ E.Step (M.Auction names) ∷ []) p.operations → IsPositionOf (opening_entries n roster ++ E.Step (M.Auction names) ∷ []) p
stands_begun n roster names p h bidding rounds operations = record {
  books = stays (opening_entries n roster) (E.Step (M.Auction names)) p.books refl h.books;
  bidding = bidding;
  market = market_stays (opening_entries n roster) (E.Step (M.Auction names)) p.market refl h.market;
  rounds = rounds;
  operations = operations;
  layout = puts_nothing_through (opening_entries n roster) (E.Step (M.Auction names) ∷ []) p.layout refl h.layout;
}
