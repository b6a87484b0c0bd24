-- The auction and the stock rounds agree on priority.
use Rattle.std.specs.Prelude.{◌≡◌, ℕ, Bool, true, false, [], ◌∷◌, ◌++◌, ◌⊎◌, unwrap_or, if◌then◌else◌, refl}
use Rattle.std.specs.List.{list_any}
use Rattle.std.proofs.Common.{sym, ◌∙◌, ap, append_assoc, append-nil, inl, inr, subst}
use Rattle.std.proofs.lemmas.Bool.{false≢true, or_parts}
use Rattle.rr_books.specs.declared.parties.Place.TheVariants as L
use Rattle.rr_books.specs.declared.parties.Seat.{Seat}
use Rattle.rr_books.specs.declared.certificates.Cert.TheVariants as C
use Rattle.rr_books.specs.declared.entries.Entry.{Entry}
use Rattle.rr_books.specs.declared.entries.Entry.TheVariants as E
use Rattle.rr_books.specs.declared.entries.Marker.{Marker}
use Rattle.rr_books.specs.declared.entries.Marker.TheVariants as M
use Rattle.rr_books.specs.declared.acts.Act.{Act}
use Rattle.rr_books.specs.declared.acts.Act.TheVariants as A
use Rattle.rr_books.specs.Book.{Book, players}
use Rattle.rr_books.specs.Seating.{left_of}
use Rattle.rr_auction.specs.AuctionLaws.{left_of_buyer}
use Rattle.rr_rounds.specs.Bids.Progress as auctions
use Rattle.rr_rounds.specs.Bids.ProgressLaws as bidding
use Rattle.rr_auction.proofs.Entries as entries
use Rattle.rr_rounds.specs.Counts.{players-shown}
use Rattle.rr_rounds.specs.Round as rounds
use Rattle.rr_rounds.specs.Round.{Round, after, after_act, after_step, begins_stock_round}
use Rattle.rr_rounds.specs.RoundLaws.{progress-push}
use Rattle.rr_rounds.specs.Trades.{is_trade, step_trades, trades}

-- outside stock rounds no command counts, and in one none that neither buys nor sells moves priority
act_priority : (under_way : Bool) (act : Act) (r : Round) → (under_way ≡ false) ⊎ (trades act ≡ false) → (if under_way then after_act act r else r).priority ≡ r.priority
act_priority false act r h = refl
act_priority true act r (inl h) = absurd (false≢true (sym h))
act_priority true (A.Par s c price) r (inr h) = absurd (false≢true (sym h))
act_priority true (A.BuyShare s c source) r (inr h) = absurd (false≢true (sym h))
act_priority true (A.Sell s c n) r (inr h) = absurd (false≢true (sym h))
act_priority true (A.Done s) r (inr h) = refl
act_priority true _ r (inr h) = refl

-- an entry moves priority where it gives a seat a private
moved : (book : Book) (r : Round) (e : Entry) → players book ≡ r.players → (r.under_way ≡ false) ⊎ (is_trade e ≡ false) → (after r e).priority ≡ unwrap_or (left_of_buyer book e) r.priority
moved book r (E.Step marker) seats quiet = by_marker marker quiet
  where
    by_marker : (marker : Marker) → (r.under_way ≡ false) ⊎ (step_trades marker ≡ false) → (after_step marker r).priority ≡ r.priority
    by_marker (M.Act act) h = act_priority r.under_way act r h
    by_marker _ h = refl
moved book r (E.Move (C.Private p) (L.Seat s)) seats quiet = ap (λ (n : ℕ). left_of n s) (sym seats)
moved book r _ seats quiet = refl

-- no stock round has begun, and priority is that of the auction
record IsBefore (book : Book) : Type 0 where
  idle : (rounds.progress book).under_way ≡ false
  one : (rounds.progress book).priority ≡ (auctions.progress book).priority

one_more : (book : Book) (e : Entry) → (rounds.progress book).priority ≡ (auctions.progress book).priority → ((rounds.progress book).under_way ≡ false) ⊎ (is_trade e ≡ false) → (rounds.progress (book ++ e ∷ [])).priority ≡ (auctions.progress (book ++ e ∷ [])).priority
one_more book e same quiet =
    ap (λ (r : Round). r.priority) (progress-push book e)
    ∙ moved book (rounds.progress book) e (players-shown book (rounds.progress book) refl) quiet
    ∙ ap (λ (s : Seat). unwrap_or (left_of_buyer book e) s) same
    ∙ sym (ap (λ (a : auctions.Progress). a.priority) (bidding.progress-push book e) ∙ entries.priority_once book e)

act_idle : (under_way : Bool) (act : Act) (r : Round) → under_way ≡ false → r.under_way ≡ false → (if under_way then after_act act r else r).under_way ≡ false
act_idle true act r h k = absurd (false≢true (sym h))
act_idle false act r h k = k

idle_once : (e : Entry) (r : Round) → r.under_way ≡ false → begins_stock_round e ≡ false → (after r e).under_way ≡ false
idle_once (E.Step marker) r h k = by_marker marker k
  where
    by_marker : (marker : Marker) → begins_stock_round (E.Step marker) ≡ false → (after_step marker r).under_way ≡ false
    by_marker (M.Act act) apart = act_idle r.under_way act r h h
    by_marker M.Stock apart = absurd (false≢true (sym apart))
    by_marker M.Operating apart = refl
    by_marker _ apart = h
idle_once (E.Move (C.Private p) (L.Seat s)) r h k = h
idle_once _ r h k = h

before_through : (book es : Book) → IsBefore book → list_any begins_stock_round es ≡ false → IsBefore (book ++ es)
before_through book [] h none = subst IsBefore (sym (append-nil book)) h
before_through book (e ∷ es) h none =
    let parts = or_parts (begins_stock_round e) (list_any begins_stock_round es) none in
    subst IsBefore (append_assoc book (e ∷ []) es)
    (before_through (book ++ e ∷ []) es (record {
      idle = ap (λ (r : Round). r.under_way) (progress-push book e) ∙ idle_once e (rounds.progress book) h.idle parts.0;
      one = one_more book e h.one (inl h.idle);
    }) parts.1)

nothing_yet : IsBefore []
unfolding rounds.progress auctions.progress
nothing_yet = record { idle = refl; one = refl }

-- until the first stock round begins
before_rounds : (before : Book) → list_any begins_stock_round before ≡ false → IsBefore before
before_rounds before none = before_through [] before nothing_yet none

pub one_before : (before : Book) → list_any begins_stock_round before ≡ false → (rounds.progress before).priority ≡ (auctions.progress before).priority
one_before before none = (before_rounds before none).one

-- and then until somebody buys or sells
pub one_since : (book es : Book) → (rounds.progress book).priority ≡ (auctions.progress book).priority → list_any is_trade es ≡ false → (rounds.progress (book ++ es)).priority ≡ (auctions.progress (book ++ es)).priority
one_since book [] same none =
    let P : Book → Type 0 = λ b. (rounds.progress b).priority ≡ (auctions.progress b).priority in
    subst P (sym (append-nil book)) same
one_since book (e ∷ es) same none =
    let parts = or_parts (is_trade e) (list_any is_trade es) none in
    let P : Book → Type 0 = λ b. (rounds.progress b).priority ≡ (auctions.progress b).priority in
    subst P (append_assoc book (e ∷ []) es) (one_since (book ++ e ∷ []) es (one_more book e same (inr parts.0)) parts.1)
