-- The auction of a table that opens.
use Rattle.std.specs.Prelude.{◌≡◌, ℕ, List, [], ◌∷◌, ◌++◌, refl}
use Rattle.std.specs.List.{flat_map, range_with_len}
use Rattle.std.proofs.Common.{sym, ◌∙◌, ap}
use Rattle.rr_roster.specs.Terms.{Terms, order_of}
use Rattle.rr_books.specs.declared.parties.Place.TheVariants as L
use Rattle.rr_books.specs.declared.certificates.Cert.{Cert}
use Rattle.rr_books.specs.declared.certificates.Cert.TheVariants as C
use Rattle.rr_books.specs.declared.entries.Entry.TheVariants as E
use Rattle.rr_books.specs.declared.entries.Marker.TheVariants as M
use Rattle.rr_books.specs.Book.{Book}
use Rattle.rr_books.specs.Opening.{opening_entries, opening_payments, opening_moves, opening_trains, start_of, trains_of, kinds}
use Rattle.rr_books.specs.Shares.{certificates}
use Rattle.rr_rounds.specs.Bids.Progress.{Progress, IsBiddingOf, after, beginning, follow, progress}
use Rattle.rr_rounds.specs.Bids.ProgressLaws.{follow-append, follow_still}

offered_still : (book : Book) (a : Progress) (c : Cert) → after book a (E.Move c L.Offer) ≡ a
offered_still book a (C.Private p) = refl
offered_still book a (C.President c) = refl
offered_still book a (C.Share c n) = refl

opening_still : (n : ℕ) (roster : Terms) (a : Progress) → follow [] a (opening_entries n roster) ≡ a
unfolding opening_payments opening_moves opening_trains
opening_still n roster a =
    let paid = opening_payments n in
    let moved = opening_moves roster in
    let trains = opening_trains roster in
    follow-append [] (paid ++ moved) trains a
    ∙ ap (λ (b : Progress). follow (paid ++ moved) b trains)
    (follow-append [] paid moved a
    ∙ ap (λ (b : Progress). follow paid b moved) (follow_still (start_of n) (λ book b x. refl) [] a (range_with_len 0 n))
    ∙ follow_still (λ c. E.Move c L.Offer) offered_still paid a (certificates (order_of roster)))
    ∙ follow_still (λ t. E.Train t L.Offer) (λ book b x. refl) (paid ++ moved) a (flat_map (trains_of roster) kinds)

-- nothing has happened yet when the table has opened, nor once the auction has begun
pub opens : (roster : Terms) (n : ℕ) (a : Progress) → a ≡ beginning → IsBiddingOf (opening_entries n roster) a
unfolding progress
opens roster n a e = opening_still n roster beginning ∙ sym e

pub begins : (roster : Terms) (n : ℕ) (names : List (List ℕ)) (a : Progress) → a ≡ beginning → IsBiddingOf (opening_entries n roster ++ E.Step (M.Auction names) ∷ []) a
unfolding progress
begins roster n names a e =
    follow-append [] (opening_entries n roster) (E.Step (M.Auction names) ∷ []) beginning
    ∙ ap (λ (b : Progress). follow (opening_entries n roster) b (E.Step (M.Auction names) ∷ [])) (opening_still n roster beginning)
    ∙ sym e
