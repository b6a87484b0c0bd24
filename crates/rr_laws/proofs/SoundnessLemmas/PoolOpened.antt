-- The pool of a table that opens has no share.
use Rattle.std.specs.Prelude.{◌≡◌, ℕ, cond, List, [], ◌∷◌, ◌++◌, map, count_by, length, refl}
use Rattle.std.specs.List.{flat_map, range_with_len}
use Rattle.std.proofs.Common.{arith}
use Rattle.std.proofs.lemmas.List.Sums.{sum_by-append}
use Rattle.rr_roster.specs.Terms.{Terms, order_of}
use Rattle.rr_books.specs.declared.parties.Place.TheVariants as L
use Rattle.rr_books.specs.declared.certificates.Cert.{Cert}
use Rattle.rr_books.specs.declared.certificates.Train.{Train}
use Rattle.rr_books.specs.declared.entries.Entry.{Entry}
use Rattle.rr_books.specs.declared.entries.Entry.TheVariants as E
use Rattle.rr_books.specs.declared.entries.Marker.TheVariants as M
use Rattle.rr_books.specs.Book.{Book, holder}
use Rattle.rr_books.specs.Opening.{kinds, opening_entries, opening_moves, opening_payments, opening_trains, start_of, trains_of}
use Rattle.rr_books.specs.Shares.{certificates, share}
use Rattle.rr_auction.specs.Opening.{opened}
use Rattle.rr_stock.specs.PoolLimits.{HasHalfAtMost}
use Rattle.rr_stock.proofs.PoolLemmas.{moves_to_pool, no_more_by, pool}

starts_none : (n : ℕ) (ks : List ℕ) → count_by moves_to_pool (map (start_of n) ks) ≡ 0
starts_none n [] = refl
starts_none n (k ∷ ks) = starts_none n ks

moves_none : (certs : List Cert) → count_by moves_to_pool (map (λ c. E.Move c L.Offer) certs) ≡ 0
moves_none [] = refl
moves_none (c ∷ certs) = moves_none certs

trains_none : (trains : List Train) → count_by moves_to_pool (map (λ t. E.Train t L.Offer) trains) ≡ 0
trains_none [] = refl
trains_none (t ∷ trains) = trains_none trains

joined_none : (xs ys : Book) → count_by moves_to_pool xs ≡ 0 → count_by moves_to_pool ys ≡ 0 → count_by moves_to_pool (xs ++ ys) ≡ 0
joined_none xs ys h k = let both = sum_by-append (λ (x : Entry). cond (moves_to_pool x) 1 0) xs ys in omega arith

opened_none : (names : List (List ℕ)) (roster : Terms) → count_by moves_to_pool (opened names roster) ≡ 0
unfolding opening_payments opening_moves opening_trains
opened_none names roster =
    let n = length names in
    joined_none (opening_entries n roster) (E.Step (M.Auction names) ∷ [])
    (joined_none (opening_payments n ++ opening_moves roster) (opening_trains roster)
    (joined_none (opening_payments n) (opening_moves roster) (starts_none n (range_with_len 0 n)) (moves_none (certificates (order_of roster)))) (trains_none (flat_map (trains_of roster) kinds))) refl

pub half_at_first : (names : List (List ℕ)) (roster : Terms) → HasHalfAtMost (opened names roster)
unfolding pool share holder
half_at_first names roster c = let low = no_more_by [] (opened names roster) c (opened_none names roster) in omega arith
