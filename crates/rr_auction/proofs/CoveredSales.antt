-- Sales, what comes with them, and incomes leave the bids covered.
use Rattle.std.specs.Prelude.{◌≡◌, ℕ, ◌<◌, ℤ, pos, ◌+ℤ◌, ◌-ℤ◌, ◌≤ℤ◌, Bool, true, false, not, nat_lt, ◌&&◌, List, [], ◌∷◌, ◌++◌, Option, None, Some, find, map, max, refl}
use Rattle.std.proofs.Common.{sym, ◌∙◌, ap, subst, cond, arith}
use Rattle.std.proofs.Math.Path.{fun_ext}
use Rattle.std.proofs.lemmas.Bool.{eqb-true, lt-ltb}
use Rattle.std.proofs.lemmas.Bool.Decides.{nat_tests}
use Rattle.std.proofs.lemmas.Int.{ints}
use Rattle.rr_roster.specs.declared.company.Private.{Private}
use Rattle.rr_roster.specs.declared.company.Corp.{Corp}
use Rattle.rr_roster.specs.Terms.{Terms, income_of}
use Rattle.rr_books.specs.declared.parties.Seat.{Seat}
use Rattle.rr_books.specs.declared.parties.Party.{Party}
use Rattle.rr_books.specs.declared.parties.Party.TheVariants as P
use Rattle.rr_books.specs.declared.parties.Place.{Place}
use Rattle.rr_books.specs.declared.parties.Place.TheVariants as L
use Rattle.rr_books.specs.declared.certificates.ShareNumber.{ShareNumber}
use Rattle.rr_books.specs.declared.certificates.Cert.{Cert}
use Rattle.rr_books.specs.declared.certificates.Cert.TheVariants as C
use Rattle.rr_books.specs.declared.entries.Entry.TheVariants as E
use Rattle.rr_books.specs.Book.{Book, balance, balance-push, balance_after, holder, holder-push, holder_after, players, seats_up_to}
use Rattle.rr_books.specs.Same.{same_cert, same_party}
use Rattle.rr_books.specs.Shares.{Holders, is_at, share_numbers}
use Rattle.rr_books.specs.State.{has_party, has_place}
use Rattle.rr_desk.specs.Effects.{adds, moves_if}
use Rattle.rr_rounds.specs.Bids.Bids.{Bids, bid_of, tied_on, tied_up}
use Rattle.rr_desk.specs.Incomes.{dollars, owner, pays_if, pays_income}
use Rattle.rr_auction.specs.Effects.{gift, sale}
use Rattle.rr_auction.proofs.AllBids.{all_bids, bid_on}
use Rattle.rr_rounds.specs.Bids.Progress.{Progress, after, progress}
use Rattle.rr_auction.specs.Rules.{free_cash}
use Rattle.rr_rounds.specs.Bids.Unsold.{is_unsold, same_private}
use Rattle.rr_auction.proofs.Covers.{IsCovered, IsCoveredBook, GoesOn, goes_by, goes_nowhere, goes_once, goes_then, nothing_paid, same_sum}
use Rattle.rr_auction.proofs.AllBids.{split}
use Rattle.rr_rounds.specs.Bids.ProgressLaws.{progress-append}

-- the same privates are unsold, so the same bids stand
same_bids : (H K : Holders) (b : Bids) (t : Seat) → ((q : Private) → K (C.Private q) ≡ H (C.Private q)) → all_bids K b t ≡ all_bids H b t
unfolding all_bids
same_bids H K b t h =
    same_sum (bid_on K b t) (bid_on H b t) (λ q. ap (λ (x : Option Place). cond (is_at x L.Offer) (bid_of b q t) 0) (h q))

-- another certificate than a private moves
goes_by_move : (n : ℕ) (book : Book) (cert : Cert) (to : Place) → IsCoveredBook n book → has_place n to ≡ true → ((q : Private) → same_cert (C.Private q) cert ≡ false) → after book (progress book) (E.Move cert to) ≡ progress book → GoesOn n book (E.Move cert to ∷ [])
goes_by_move n book cert to h there other still =
    let e = E.Move cert to in
    let K : Holders = λ c. holder_after c (holder book c) e in
    let Covered : Progress → Type 0 = λ x. IsCovered n K (λ p. balance_after p (balance book p) e) x in
    let as_before : (q : Private) → K (C.Private q) ≡ holder book (C.Private q) = λ q. ap (λ (b : Bool). cond b (Some to) (holder book (C.Private q))) (other q) in
    let was = h.covered in
    goes_by n book e h refl refl there (subst Covered (sym still) (record {
      turn = was.turn;
      bidders = was.bidders;
      seats = λ t.
          let same = same_bids (holder book) K (progress book).bids t as_before in
          let paid = nothing_paid (balance book (P.Seat t)) in
          let had = was.seats t in
          omega (arith, ints);
      corporations = λ c. let had = was.corporations c in let paid = nothing_paid (balance book (P.Corp c)) in omega (arith, ints);
    }))

-- the lowest share of a corporation, if there is one
goes_by_share : (n : ℕ) (book : Book) (test : Cert → Bool) (c : Corp) (to : Place) (ns : List ShareNumber) → IsCoveredBook n book → has_place n to ≡ true → GoesOn n book (moves_if (find test (map (λ m. C.Share c m) ns)) to)
goes_by_share n book test c to [] h there = goes_nowhere n book h
goes_by_share n book test c to (m ∷ ms) h there = by_test (test (C.Share c m)) (goes_by_share n book test c to ms h there)
  where
    by_test : (b : Bool) → GoesOn n book (moves_if (find test (map (λ m. C.Share c m) ms)) to) → GoesOn n book (moves_if (cond b (Some (C.Share c m)) (find test (map (λ m. C.Share c m) ms))) to)
    by_test true later = goes_by_move n book (C.Share c m) to h there (λ q. refl) refl
    by_test false later = later

-- what comes with a private
goes_by_gift : (n : ℕ) (p : Private) (s : Seat) (book : Book) → IsCoveredBook n book → s.0 < n → GoesOn n book (gift p s book)
unfolding gift
goes_by_gift n Private.Ca s book h seated = goes_by_share n book (λ cert. is_at (holder book cert) L.Offer) Corp.Prr (L.Seat s) share_numbers h (lt-ltb s.0 n seated)
goes_by_gift n Private.Bo s book h seated = goes_by_move n book (C.President Corp.Bo) (L.Seat s) h (lt-ltb s.0 n seated) (λ q. refl) refl
goes_by_gift n Private.Sv s book h seated = goes_nowhere n book h
goes_by_gift n Private.Csl s book h seated = goes_nowhere n book h
goes_by_gift n Private.Dh s book h seated = goes_nowhere n book h
goes_by_gift n Private.Mh s book h seated = goes_nowhere n book h

off_offer : (b : Bool) (s : Seat) (x : Option Place) → is_at (cond b (Some (L.Seat s)) x) L.Offer ≡ cond b false (is_at x L.Offer)
off_offer true s x = refl
off_offer false s x = refl

sold_if : (same unsold : Bool) (x : ℕ) → cond (cond same false unsold) x 0 ≡ cond (not same && unsold) x 0
sold_if true unsold x = refl
sold_if false unsold x = refl

-- who holds what once a private is a seat's
abbrev held_after : Holders → Private → Seat → Holders
held_after H p s c = holder_after c (H c) (E.Move (C.Private p) (L.Seat s))

-- once a private is sold, the bids that stand are those on the others
sold_bids : (H : Holders) (b : Bids) (t : Seat) (p : Private) (s : Seat) → all_bids (held_after H p s) b t ≡ tied_up H b t p
unfolding all_bids tied_up
sold_bids H b t p s =
    same_sum (bid_on (held_after H p s) b t) (tied_on H b t p)
    (λ q. ap (λ (u : Bool). cond u (bid_of b q t) 0) (off_offer (same_private q p) s (H (C.Private q))) ∙ sold_if (same_private q p) (is_unsold H q) (bid_of b q t))

-- a private becomes a seat's
goes_by_title : (n : ℕ) (book : Book) (p : Private) (s : Seat) → IsCoveredBook n book → s.0 < n → GoesOn n book (E.Move (C.Private p) (L.Seat s) ∷ [])
goes_by_title n book p s h seated =
    let was = h.covered in
    goes_by n book (E.Move (C.Private p) (L.Seat s)) h refl refl (lt-ltb s.0 n seated) (record {
      turn = was.turn;
      bidders = was.bidders;
      seats = λ t.
          let sold = sold_bids (holder book) (progress book).bids t p s in
          let parts = split (holder book) (progress book).bids t p in
          let paid = nothing_paid (balance book (P.Seat t)) in
          let had = was.seats t in
          omega (arith, ints);
      corporations = λ c. let had = was.corporations c in let paid = nothing_paid (balance book (P.Corp c)) in omega (arith, ints);
    })

seat_there : (m n : ℕ) → m < n → (nat_lt m n && true) ≡ true
seat_there m n h = grind (arith, nat_tests)

none_more : (n : ℕ) → max n 0 ≡ n
none_more n = omega arith

covers_still : (b : Bool) (all m : ℕ) (cash : ℤ) → pos all ≤ℤ cash → (b ≡ true → pos m ≤ℤ (cash -ℤ pos all)) → pos all ≤ℤ ((cash +ℤ pos 0) -ℤ cond b (pos m) (pos 0))
covers_still true all m cash had can = let k = can refl in omega (arith, ints)
covers_still false all m cash had can = omega (arith, ints)

-- a seat pays the bank what it can beside its bids
goes_by_price : (n : ℕ) (book : Book) (s : Seat) (m : ℕ) → IsCoveredBook n book → s.0 < n → pos m ≤ℤ (balance book (P.Seat s) -ℤ pos (all_bids (holder book) (progress book).bids s)) → GoesOn n book (E.Pay (P.Seat s) P.Bank (dollars m) ∷ [])
goes_by_price n book s m h seated enough =
    let was = h.covered in
    let H = holder book in
    let b = (progress book).bids in
    goes_by n book (E.Pay (P.Seat s) P.Bank (dollars m)) h (none_more n) (seat_there s.0 n seated) refl (record {
      turn = was.turn;
      bidders = was.bidders;
      seats = λ t.
          let Can : ℕ → Type 0 = λ x. pos m ≤ℤ (balance book (P.Seat (record { 0 = x })) -ℤ pos (all_bids H b (record { 0 = x }))) in
          covers_still (same_party (P.Seat t) (P.Seat s)) (all_bids H b t) m (balance book (P.Seat t)) (was.seats t)
          (λ same. subst Can (sym (eqb-true t.0 s.0 same)) enough);
      corporations = λ c. let had = was.corporations c in let paid = nothing_paid (balance book (P.Corp c)) in omega (arith, ints);
    })

-- a sale for what the seat can pay beside its other bids
pub goes_by_sale : (n : ℕ) (book : Book) (s : Seat) (p : Private) (m : ℕ) → IsCoveredBook n book → s.0 < n → pos m ≤ℤ free_cash (balance book) (holder book) (progress book) s p → GoesOn n book (sale s p (dollars m) book)
unfolding sale
goes_by_sale n book s p m h seated enough =
    let move = E.Move (C.Private p) (L.Seat s) in
    let sold = book ++ move ∷ [] in
    let pay = adds (E.Pay (P.Seat s) P.Bank (dollars m)) in
    let held : holder sold ≡ held_after (holder book) p s = fun_ext (λ (c : Cert). holder-push book move c) in
    let bids : (progress sold).bids ≡ (progress book).bids = ap (λ (x : Progress). x.bids) (progress-append book (move ∷ [])) in
    let all : all_bids (holder sold) (progress sold).bids s ≡ tied_up (holder book) (progress book).bids s p =
    ap (λ (J : Holders). all_bids J (progress sold).bids s) held
    ∙ ap (λ (b : Bids). all_bids (held_after (holder book) p s) b s) bids
    ∙ sold_bids (holder book) (progress book).bids s p s in
    let cash : balance sold (P.Seat s) ≡ balance book (P.Seat s) = balance-push book move (P.Seat s) ∙ nothing_paid (balance book (P.Seat s)) in
    let can : pos m ≤ℤ (balance sold (P.Seat s) -ℤ pos (all_bids (holder sold) (progress sold).bids s)) = omega (arith, ints) in
    goes_then n (adds move) (pay ∷ gift p s ∷ []) book (goes_by_title n book p s h seated)
    (λ titled. goes_then n pay (gift p s ∷ []) sold (goes_by_price n sold s m titled seated can)
    (λ paid. goes_once n (gift p s) _ (goes_by_gift n p s _ paid seated)))

no_more_seats : (n : ℕ) (party : Party) → has_party n party ≡ true → max n (seats_up_to party) ≡ n
no_more_seats n P.Bank h = omega arith
no_more_seats n (P.Corp c) h = omega arith
no_more_seats n (P.Seat s) h = grind (arith, nat_tests)

gains : (b : Bool) (m k : ℕ) (cash : ℤ) → pos k ≤ℤ cash → pos k ≤ℤ ((cash +ℤ cond b (pos m) (pos 0)) -ℤ pos 0)
gains true m k cash h = omega (arith, ints)
gains false m k cash h = omega (arith, ints)

-- the bank pays a party of the table
goes_by_income : (n : ℕ) (book : Book) (party : Party) (m : ℕ) → IsCoveredBook n book → has_party n party ≡ true → GoesOn n book (E.Pay P.Bank party (dollars m) ∷ [])
goes_by_income n book party m h there =
    let was = h.covered in
    goes_by n book (E.Pay P.Bank party (dollars m)) h (no_more_seats n party there) there refl (record {
      turn = was.turn;
      bidders = was.bidders;
      seats = λ t. gains (same_party (P.Seat t) party) m (all_bids (holder book) (progress book).bids t) (balance book (P.Seat t)) (was.seats t);
      corporations = λ c. gains (same_party (P.Corp c) party) m 0 (balance book (P.Corp c)) (was.corporations c);
    })

owner_there : (n : ℕ) (o : Option Place) (party : Party) → owner n o ≡ Some party → has_party n party ≡ true
owner_there n None party e = absurd (cc)
owner_there n (Some (L.Seat s)) party e = by_test (nat_lt s.0 n) refl e
  where
    by_test : (b : Bool) → nat_lt s.0 n ≡ b → cond b (Some (P.Seat s)) None ≡ Some party → has_party n party ≡ true
    by_test true there same = let is : P.Seat s ≡ party = cc in subst (λ (x : Party). has_party n x ≡ true) is there
    by_test false there same = absurd (cc)
owner_there n (Some (L.Corp c)) party e = let is : P.Corp c ≡ party = cc in subst (λ (x : Party). has_party n x ≡ true) is refl
owner_there n (Some L.Offer) party e = absurd (cc)
owner_there n (Some L.Pool) party e = absurd (cc)
owner_there n (Some L.Gone) party e = absurd (cc)

-- a private's income
pub goes_by_private_income : (n : ℕ) (roster : Terms) (p : Private) (book : Book) → IsCoveredBook n book → GoesOn n book (pays_income roster p book)
unfolding pays_income
goes_by_private_income n roster p book h = by_owner (owner (players book) (holder book (C.Private p))) refl
  where
    by_owner : (o : Option Party) → owner (players book) (holder book (C.Private p)) ≡ o → GoesOn n book (pays_if o (income_of roster p) book)
    by_owner None e = goes_nowhere n book h
    by_owner (Some party) e =
        goes_by_income n book party (income_of roster p) h
        (owner_there n (holder book (C.Private p)) party (ap (λ (m : ℕ). owner m (holder book (C.Private p))) (sym h.players) ∙ e))
