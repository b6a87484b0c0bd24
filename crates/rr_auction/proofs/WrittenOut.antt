-- Effects with what was read written out, as effects by the book.
use Rattle.std.specs.Prelude.{◌≡◌, Bool, true, false, [], ◌∷◌, Option, None, Some, refl, if◌then◌else◌}
use Rattle.std.proofs.Common.{◌∙◌, ap}
use Rattle.rr_roster.specs.declared.company.Private.{Private}
use Rattle.rr_roster.specs.Terms.{Terms}
use Rattle.rr_books.specs.declared.parties.Money.{Money}
use Rattle.rr_books.specs.declared.parties.Seat.{Seat}
use Rattle.rr_books.specs.declared.acts.Act.TheVariants as A
use Rattle.rr_books.specs.declared.entries.Entry.TheVariants as E
use Rattle.rr_books.specs.declared.entries.Marker.TheVariants as M
use Rattle.rr_books.specs.Book.{Book, holder}
use Rattle.rr_desk.specs.Effects.{adds, in_turn}
use Rattle.rr_desk.specs.Incomes.{dollars}
use Rattle.rr_rounds.specs.Bids.Bids.{bid_in, bid_of, bids_on, sole_bidder}
use Rattle.rr_rounds.specs.Bids.Progress.{progress}
use Rattle.rr_rounds.specs.Bids.Unsold.{cheapest, is_private}
use Rattle.rr_auction.specs.Effects.{purchase_of, sale, sale_at_bid, settle, settled, settles}
use Rattle.rr_auction.specs.Rules.{price}

-- the only bidder for a private that is the cheapest
abbrev pub buyer : Private → Book → Option Seat
buyer p book = if is_private p (cheapest (holder book)) then sole_bidder (bids_on (progress book).bids p) else None

-- a private with just one bidder, at the bid
pub settles_sold : (p : Private) (s : Seat) (amount : Money) (book : Book) → Some s ≡ buyer p book → amount ≡ dollars (bid_of (progress book).bids p s) → sale s p amount book ≡ settles p book
unfolding settles
settles_sold p s amount book who bid = ap (λ (m : Money). sale s p m book) bid ∙ by_test (is_private p (cheapest (holder book))) who
  where
    by_test : (b : Bool) → Some s ≡ (if b then sole_bidder (bids_on (progress book).bids p) else None) → sale s p (dollars (bid_in (bids_on (progress book).bids p) s)) book ≡ settled p b (bids_on (progress book).bids p) book
    by_test true e = ap (λ (o : Option Seat). sale_at_bid p (bids_on (progress book).bids p) o book) e
    by_test false e = absurd (cc)

-- and one without
pub settles_none : (p : Private) (book : Book) → None ≡ buyer p book → in_turn [] book ≡ settles p book
unfolding settles
settles_none p book who = by_test (is_private p (cheapest (holder book))) who
  where
    by_test : (b : Bool) → None ≡ (if b then sole_bidder (bids_on (progress book).bids p) else None) → in_turn [] book ≡ settled p b (bids_on (progress book).bids p) book
    by_test true e = ap (λ (o : Option Seat). sale_at_bid p (bids_on (progress book).bids p) o book) e
    by_test false e = refl

-- a purchase of what is for sale, at its price
pub buys_for_sale : (roster : Terms) (s : Seat) (p : Private) (amount : Money) (book : Book) → Some p ≡ cheapest (holder book) → amount ≡ dollars (price roster (progress book).falls p) → in_turn (adds (E.Step (M.Act (A.BuyPrivate s))) ∷ sale s p amount ∷ settle ∷ []) book ≡ purchase_of roster s (progress book).falls (cheapest (holder book)) book
buys_for_sale roster s p amount book there cost =
    ap (λ (m : Money). in_turn (adds (E.Step (M.Act (A.BuyPrivate s))) ∷ sale s p m ∷ settle ∷ []) book) cost
    ∙ ap (λ (o : Option Private). purchase_of roster s (progress book).falls o book) there
