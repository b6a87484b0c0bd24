-- Entries that leave the auction where it is.
use Rattle.std.specs.Prelude.{◌≡◌, ℕ, Bool, true, false, List, [], ◌∷◌, ◌++◌, Option, None, Some, cond, find, map, refl}
use Rattle.std.proofs.Common.{◌∙◌, ap}
use Rattle.rr_roster.specs.declared.company.Private.{Private}
use Rattle.rr_roster.specs.declared.company.Corp.{Corp}
use Rattle.rr_roster.specs.Terms.{Terms, income_of}
use Rattle.rr_books.specs.declared.parties.Party.{Party}
use Rattle.rr_books.specs.declared.parties.Seat.{Seat}
use Rattle.rr_books.specs.declared.parties.Place.{Place}
use Rattle.rr_books.specs.declared.parties.Place.TheVariants as L
use Rattle.rr_books.specs.declared.certificates.ShareNumber.{ShareNumber}
use Rattle.rr_books.specs.declared.certificates.Cert.{Cert}
use Rattle.rr_books.specs.declared.certificates.Cert.TheVariants as C
use Rattle.rr_books.specs.declared.entries.Cell.{Cell}
use Rattle.rr_books.specs.Book.{Book, holder, players}
use Rattle.rr_books.specs.Shares.{is_at, share_numbers}
use Rattle.rr_desk.specs.Effects.{Effect, in_turn, moves_if}
use Rattle.rr_market.specs.Moves.{mark_at}
use Rattle.rr_desk.specs.Incomes.{owner, pay_incomes_of, pays_if, pays_income}
use Rattle.rr_auction.specs.Effects.{gift}
use Rattle.rr_rounds.specs.Bids.Progress.{Progress, follow}
use Rattle.rr_rounds.specs.Bids.ProgressLaws.{follow-append}

-- effects that each leave it leave it together
pub effects_still : {X : Type 0} (f : X → Effect) → ((book : Book) (a : Progress) (x : X) → follow book a (f x book) ≡ a) → (book : Book) (a : Progress) (xs : List X) → follow book a (in_turn (map f xs) book) ≡ a
effects_still f h book a [] = refl
effects_still f h book a (x ∷ xs) =
    let es = f x book in
    follow-append book es (in_turn (map f xs) (book ++ es)) a
    ∙ ap (λ (b : Progress). follow (book ++ es) b (in_turn (map f xs) (book ++ es))) (h book a x)
    ∙ effects_still f h (book ++ es) a xs

income_still : (book : Book) (a : Progress) (o : Option Party) (n : ℕ) → follow book a (pays_if o n book) ≡ a
income_still book a None n = refl
income_still book a (Some party) n = refl

-- incomes
pub incomes_still : (roster : Terms) (book : Book) (a : Progress) (ps : List Private) → follow book a (pay_incomes_of roster ps book) ≡ a
unfolding pay_incomes_of pays_income
incomes_still roster book a ps =
    effects_still (λ p book. pays_if (owner (players book) (holder book (C.Private p))) (income_of roster p) book)
    (λ book a p. income_still book a (owner (players book) (holder book (C.Private p))) (income_of roster p)) book a ps

share_still : (book : Book) (a : Progress) (test : Cert → Bool) (c : Corp) (to : Place) (ns : List ShareNumber) → follow book a (moves_if (find test (map (λ n. C.Share c n) ns)) to) ≡ a
share_still book a test c to [] = refl
share_still book a test c to (n ∷ ns) = by_test (test (C.Share c n)) n _ (share_still book a test c to ns)
  where
    by_test : (b : Bool) (n : ShareNumber) (others : Option Cert) → follow book a (moves_if others to) ≡ a → follow book a (moves_if (cond b (Some (C.Share c n)) others) to) ≡ a
    by_test true n others h = refl
    by_test false n others h = h

-- what comes with a private
pub gift_still : (p : Private) (s : Seat) (book : Book) (a : Progress) → follow book a (gift p s book) ≡ a
unfolding gift
gift_still Private.Ca s book a = share_still book a (λ cert. is_at (holder book cert) L.Offer) Corp.Prr (L.Seat s) share_numbers
gift_still Private.Bo s book a = refl
gift_still Private.Sv s book a = refl
gift_still Private.Csl s book a = refl
gift_still Private.Dh s book a = refl
gift_still Private.Mh s book a = refl

-- the mark of a token
pub mark_still : (book : Book) (a : Progress) (c : Corp) (cell : Option Cell) → follow book a (mark_at c cell) ≡ a
mark_still book a c None = refl
mark_still book a c (Some cell) = refl
