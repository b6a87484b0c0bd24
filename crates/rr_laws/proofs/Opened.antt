-- The entries of a table that opens, each of which meets a test.
use Rattle.std.specs.Prelude.{◌≡◌, ℕ, Bool, true, List, [], ◌∷◌, ◌++◌, ◌&&◌, length, map, refl}
use Rattle.std.proofs.Common.{◌∙◌, ap}
use Rattle.std.specs.List.{flat_map, list_all, range_with_len}
use Rattle.std.proofs.lemmas.List.Folds.{list_all-append}
use Rattle.rr_roster.specs.Terms.{Terms, order_of}
use Rattle.rr_books.specs.declared.certificates.Cert.{Cert}
use Rattle.rr_books.specs.declared.certificates.Train.{Train}
use Rattle.rr_books.specs.declared.entries.Entry.{Entry}
use Rattle.rr_books.specs.declared.entries.Entry.TheVariants as E
use Rattle.rr_books.specs.declared.entries.Marker.TheVariants as M
use Rattle.rr_books.specs.declared.parties.Place.TheVariants as L
use Rattle.rr_books.specs.Book.{Book}
use Rattle.rr_books.specs.Opening.{kinds, opening_entries, opening_moves, opening_payments, opening_trains, start_of, trains_of}
use Rattle.rr_books.specs.Shares.{certificates}
use Rattle.rr_auction.specs.Opening.{opened}

-- what opens a table meets the test
pub record Opens (test : Entry → Bool) : Type 0 where
  pub payments : (n seat : ℕ) → test (start_of n seat) ≡ true
  pub moves : (cert : Cert) → test (E.Move cert L.Offer) ≡ true
  pub trains : (t : Train) → test (E.Train t L.Offer) ≡ true
  pub begins : (names : List (List ℕ)) → test (E.Step (M.Auction names)) ≡ true

module _ (test : Entry → Bool) (each : Opens test) where
  each_meets : {X : Type 0} (f : X → Entry) (xs : List X) → ((x : X) → test (f x) ≡ true) → list_all test (map f xs) ≡ true
  each_meets f [] h = refl
  each_meets f (x ∷ xs) h = ap (λ (b : Bool). b && list_all test (map f xs)) (h x) ∙ each_meets f xs h

  both_meet : (xs ys : Book) → list_all test xs ≡ true → list_all test ys ≡ true → list_all test (xs ++ ys) ≡ true
  both_meet xs ys h k = list_all-append test xs ys ∙ ap (λ (b : Bool). b && list_all test ys) h ∙ k

  payments_meet : (n : ℕ) → list_all test (opening_payments n) ≡ true
  unfolding opening_payments
  payments_meet n = each_meets (start_of n) (range_with_len 0 n) (each.payments n)

  moves_meet : (roster : Terms) → list_all test (opening_moves roster) ≡ true
  unfolding opening_moves
  moves_meet roster = each_meets (λ c. E.Move c L.Offer) (certificates (order_of roster)) each.moves

  trains_meet : (roster : Terms) → list_all test (opening_trains roster) ≡ true
  unfolding opening_trains
  trains_meet roster = each_meets (λ t. E.Train t L.Offer) (flat_map (trains_of roster) kinds) each.trains

  pub opening_meets : (names : List (List ℕ)) (roster : Terms) → list_all test (opened names roster) ≡ true
  opening_meets names roster =
      let n = length names in
      both_meet (opening_entries n roster) (E.Step (M.Auction names) ∷ [])
      (both_meet (opening_payments n ++ opening_moves roster) (opening_trains roster)
      (both_meet (opening_payments n) (opening_moves roster) (payments_meet n) (moves_meet roster)) (trains_meet roster))
      (ap (λ (b : Bool). b && true) (each.begins names))
