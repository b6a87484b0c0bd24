-- How often an entry of some kind stands among what a command adds.
use Rattle.std.specs.Prelude.{◌≡◌, ℕ, zero, suc, ◌+◌, ◌*◌, ◌≤◌, Bool, true, false, cond, List, [], ◌∷◌, ◌++◌, Option, None, Some, map, count_by, option_and_then, option_map, refl, if◌then◌else◌}
use Rattle.std.proofs.Common.{ap, arith}
use Rattle.std.proofs.lemmas.List.Sums.{sum_by-append, sum_by-cons}
use Rattle.rr_roster.specs.declared.company.Private.{Private}
use Rattle.rr_roster.specs.declared.company.Corp.{Corp}
use Rattle.rr_roster.specs.Chart.Chart.{Row, par_place}
use Rattle.rr_books.specs.declared.parties.Money.{Money}
use Rattle.rr_books.specs.declared.parties.Party.{Party}
use Rattle.rr_books.specs.declared.parties.Party.TheVariants as P
use Rattle.rr_books.specs.declared.parties.Seat.{Seat}
use Rattle.rr_books.specs.declared.parties.Place.{Place}
use Rattle.rr_books.specs.declared.parties.Place.TheVariants as L
use Rattle.rr_books.specs.declared.certificates.Cert.{Cert}
use Rattle.rr_books.specs.declared.certificates.Cert.TheVariants as C
use Rattle.rr_books.specs.declared.entries.Cell.{Cell}
use Rattle.rr_books.specs.declared.entries.Entry.{Entry}
use Rattle.rr_books.specs.declared.entries.Entry.TheVariants as E
use Rattle.rr_books.specs.declared.entries.Marker.TheVariants as M
use Rattle.rr_books.specs.declared.acts.Act.{Act}
use Rattle.rr_books.specs.declared.acts.Act.TheVariants as A
use Rattle.rr_roster.specs.declared.sources.ShareSource.{ShareSource}
use Rattle.rr_books.specs.Book.{Book, holder, players}
use Rattle.rr_books.specs.Same.{same_place}
use Rattle.rr_desk.specs.Effects.{Effect, adds, in_turn, lowest_share, moves_if, moves_lowest_share}
use Rattle.rr_shares.specs.declared.succession.Handover.{Handover}
use Rattle.rr_shares.specs.Succession.{handover_after_sale, handover_due}
use Rattle.rr_shares.specs.Effects.{float, float_if_due, float_of, floats_now, hands_over, hands_over_if, moves_lowest_shares, presidency, presidency_after_sale, sale_shares}
use Rattle.rr_market.specs.Marks.{mark_of}
use Rattle.rr_market.specs.Moves.{cell_above, cell_after_sale, cell_of, mark_at, par_marks, sale_marks, sold_out_marks}
use Rattle.rr_market.specs.Order.{operating_order}
use Rattle.rr_rounds.specs.Round.{ends_round, has_floated}
use Rattle.rr_desk.specs.Incomes.{dollars}
use Rattle.rr_stock.specs.Situation.{Situation}
use Rattle.rr_stock.specs.Rules.{place_of_source, share_price}
use Rattle.rr_stock.specs.Effects.{buys_share, ends_if, ends_stock_round, ends_turn, gets_share, gives_up_private, is_sold_out, pays_bank, pays_seller, proceeds, rises, rises_among, rises_if_sold_out, row, says, sells, sets_par, settles_corporation, settles_in, swaps, takes_presidency}

-- a kind of entry that is none of these: of moves, none but to the pool
pub record Spares (p : Entry → Bool) : Type 0 where
  pub pay : (from to : Party) (amount : Money) → p (E.Pay from to amount) ≡ false
  pub move : (cert : Cert) (to : Place) → same_place to L.Pool ≡ false → p (E.Move cert to) ≡ false
  pub mark : (c : Corp) (cell : Cell) → p (E.Mark c cell) ≡ false
  pub floats : (c : Corp) → p (E.Step (M.Float c)) ≡ false

-- whatever the book, the effect adds none of the kind
abbrev pub IsFree : (Entry → Bool) → Effect → Type 0
IsFree p f = (book : Book) → count_by p (f book) ≡ 0

pub one_free : (p : Entry → Bool) (e : Entry) → p e ≡ false → count_by p (e ∷ []) ≡ 0
one_free p e h =
    let both = sum_by-cons (λ (x : Entry). cond (p x) 1 0) e [] in
    let none : cond {A = ℕ} (p e) 1 0 ≡ 0 = ap (λ (b : Bool). cond {A = ℕ} b 1 0) h in
    omega arith

pub free_none : (p : Entry → Bool) → IsFree p (in_turn [])
free_none p book = refl

pub free_then : (p : Entry → Bool) (f : Effect) (fs : List Effect) → IsFree p f → IsFree p (in_turn fs) → IsFree p (in_turn (f ∷ fs))
free_then p f fs h k book =
    let both = sum_by-append (λ (x : Entry). cond (p x) 1 0) (f book) (in_turn fs (book ++ f book)) in
    let first = h book in
    let others = k (book ++ f book) in
    omega arith

pub free_two : (p : Entry → Bool) (f g : Effect) → IsFree p f → IsFree p g → IsFree p (in_turn (f ∷ g ∷ []))
free_two p f g h k = free_then p f (g ∷ []) h (free_then p g [] k (free_none p))

free_three : (p : Entry → Bool) (f g i : Effect) → IsFree p f → IsFree p g → IsFree p i → IsFree p (in_turn (f ∷ g ∷ i ∷ []))
free_three p f g i h k l = free_then p f (g ∷ i ∷ []) h (free_two p g i k l)

moves_if_free : (p : Entry → Bool) (cert : Option Cert) (to : Place) → ((d : Cert) → p (E.Move d to) ≡ false) → count_by p (moves_if cert to) ≡ 0
moves_if_free p None to h = refl
moves_if_free p (Some cert) to h = one_free p (E.Move cert to) (h cert)

lowest_free : (p : Entry → Bool) (c : Corp) (from to : Place) → ((d : Cert) → p (E.Move d to) ≡ false) → IsFree p (moves_lowest_share c from to)
lowest_free p c from to h book = moves_if_free p (lowest_share (holder book) c from) to h

several_free : (p : Entry → Bool) (c : Corp) (n : ℕ) (from to : Place) → ((d : Cert) → p (E.Move d to) ≡ false) → IsFree p (moves_lowest_shares c n from to)
unfolding moves_lowest_shares
several_free p c zero from to h = free_none p
several_free p c (suc n) from to h = free_two p (moves_lowest_shares c n from to) (moves_lowest_share c from to) (several_free p c n from to h) (lowest_free p c from to h)

handover_free : (p : Entry → Bool) (s : Spares p) (c : Corp) (h : Handover) → IsFree p (hands_over c h)
unfolding hands_over
handover_free p s c h =
    free_two p (moves_lowest_shares c 2 (L.Seat h.to) (L.Seat h.from)) (adds (E.Move (C.President c) (L.Seat h.to))) (several_free p c 2 (L.Seat h.to) (L.Seat h.from) (λ d. s.move d (L.Seat h.from) refl))
    (λ book. one_free p (E.Move (C.President c) (L.Seat h.to)) (s.move (C.President c) (L.Seat h.to) refl))

handover_if_free : (p : Entry → Bool) (s : Spares p) (c : Corp) (h : Option Handover) → IsFree p (hands_over_if c h)
handover_if_free p s c None = free_none p
handover_if_free p s c (Some h) = handover_free p s c h

presidency_free : (p : Entry → Bool) (s : Spares p) (c : Corp) → IsFree p (presidency c)
unfolding presidency
presidency_free p s c book = handover_if_free p s c (handover_due (holder book) (players book) c) book

pub after_sale_free : (p : Entry → Bool) (s : Spares p) (c : Corp) (seller : Seat) (n : ℕ) → IsFree p (presidency_after_sale c seller n)
unfolding presidency_after_sale
after_sale_free p s c seller n book = handover_if_free p s c (handover_after_sale (holder book) (players book) c seller n) book

pub sale_free : (p : Entry → Bool) (s : Spares p) (c : Corp) (seller : Seat) (n : ℕ) → ((d : Cert) → p (E.Move d L.Pool) ≡ false) → IsFree p (sale_shares c seller n)
unfolding sale_shares
sale_free p s c seller n h =
    free_two p (presidency_after_sale c seller n) (moves_lowest_shares c n (L.Seat seller) L.Pool) (after_sale_free p s c seller n) (several_free p c n (L.Seat seller) L.Pool h)

pub pay_free : (p : Entry → Bool) (s : Spares p) (from to : Party) (amount : Money) → IsFree p (adds (E.Pay from to amount))
pay_free p s from to amount book = one_free p (E.Pay from to amount) (s.pay from to amount)

float_of_free : (p : Entry → Bool) (s : Spares p) (c : Corp) (par : Option ℕ) → IsFree p (float_of c par)
unfolding float
float_of_free p s c None = free_none p
float_of_free p s c (Some par) =
    free_two p (adds (E.Pay P.Bank (P.Corp c) (dollars (10 * par)))) (adds (E.Step (M.Float c))) (pay_free p s P.Bank (P.Corp c) (dollars (10 * par))) (λ book. one_free p (E.Step (M.Float c)) (s.floats c))

float_free : (p : Entry → Bool) (s : Spares p) (c : Corp) (par : Option ℕ) (floated : Bool) → IsFree p (float_if_due c par floated)
unfolding float_if_due
float_free p s c par floated book = by_test (floats_now (holder book) c par floated)
  where
    by_test : (b : Bool) → count_by p ((if b then float_of c par else in_turn []) book) ≡ 0
    by_test true = float_of_free p s c par book
    by_test false = refl

mark_free : (p : Entry → Bool) (s : Spares p) (c : Corp) (cell : Option Cell) → count_by p (mark_at c cell) ≡ 0
mark_free p s c None = refl
mark_free p s c (Some cell) = one_free p (E.Mark c cell) (s.mark c cell)

presidency_taken_free : (p : Entry → Bool) (s : Spares p) (rows : List Row) (seat : Seat) (c : Corp) (n : ℕ) → IsFree p (takes_presidency rows seat c n)
unfolding takes_presidency
presidency_taken_free p s rows seat c n =
    free_three p (par_marks rows c n) (adds (E.Move (C.President c) (L.Seat seat))) (pays_bank seat (2 * n))
    (λ book. mark_free p s c (option_map cell_of (par_place rows n)))
    (λ book. one_free p (E.Move (C.President c) (L.Seat seat)) (s.move (C.President c) (L.Seat seat) refl))
    (pay_free p s (P.Seat seat) P.Bank (dollars (2 * n)))

share_free : (p : Entry → Bool) (s : Spares p) (seat : Seat) (c : Corp) (source : ShareSource) (price : ℕ) → IsFree p (gets_share seat c source price)
unfolding gets_share
share_free p s seat c source price =
    free_two p (moves_lowest_share c (place_of_source source) (L.Seat seat)) (pays_bank seat price) (lowest_free p c (place_of_source source) (L.Seat seat) (λ d. s.move d (L.Seat seat) refl)) (pay_free p s (P.Seat seat) P.Bank (dollars price))

settled_free : (p : Entry → Bool) (s : Spares p) (c : Corp) (par : Option ℕ) (floated : Bool) → IsFree p (settles_corporation c par floated)
unfolding settles_corporation
settled_free p s c par floated = free_two p (presidency c) (float_if_due c par floated) (presidency_free p s c) (float_free p s c par floated)

private_free : (p : Entry → Bool) (s : Spares p) (seat : Seat) (source : ShareSource) → IsFree p (gives_up_private seat source)
unfolding gives_up_private
private_free p s seat source =
    free_two p (adds (E.Move (C.Private Private.Mh) L.Gone)) (moves_lowest_share Corp.Nyc (place_of_source source) (L.Seat seat))
    (λ book. one_free p (E.Move (C.Private Private.Mh) L.Gone) (s.move (C.Private Private.Mh) L.Gone refl)) (lowest_free p Corp.Nyc (place_of_source source) (L.Seat seat) (λ d. s.move d (L.Seat seat) refl))

pub seller_free : (p : Entry → Bool) (s : Spares p) (rows : List Row) (seat : Seat) (c : Corp) (n amount : ℕ) → IsFree p (pays_seller rows seat c n amount)
unfolding pays_seller
seller_free p s rows seat c n amount =
    free_two p (adds (E.Pay P.Bank (P.Seat seat) (dollars amount))) (sale_marks rows n c) (pay_free p s P.Bank (P.Seat seat) (dollars amount))
    (λ book. mark_free p s c (option_and_then (cell_after_sale rows n) (mark_of book c)))

rise_free : (p : Entry → Bool) (s : Spares p) (rows : List Row) (c : Corp) → IsFree p (rises_if_sold_out rows c)
unfolding rises_if_sold_out
rise_free p s rows c book = by_test (is_sold_out (holder book) c)
  where
    by_test : (b : Bool) → count_by p ((if b then sold_out_marks rows c else in_turn []) book) ≡ 0
    by_test true = mark_free p s c (option_and_then (cell_above rows) (mark_of book c))
    by_test false = refl

among_free : (p : Entry → Bool) (s : Spares p) (rows : List Row) (cs : List Corp) → IsFree p (rises_among rows cs)
unfolding rises_among
among_free p s rows [] = free_none p
among_free p s rows (c ∷ cs) = free_then p (rises_if_sold_out rows c) (map (rises_if_sold_out rows) cs) (rise_free p s rows c) (among_free p s rows cs)

rises_free : (p : Entry → Bool) (s : Spares p) (rows : List Row) → IsFree p (rises rows)
unfolding rises
rises_free p s rows book = among_free p s rows (operating_order rows book) book

-- one entry, and others of which none is of the kind
one_then : (p : Entry → Bool) (e : Entry) (fs : List Effect) (book : Book) → IsFree p (in_turn fs) → count_by p (in_turn (adds e ∷ fs) book) ≡ cond (p e) 1 0
one_then p e fs book h =
    let rest = in_turn fs (book ++ e ∷ []) in
    let both = sum_by-cons (λ (x : Entry). cond (p x) 1 0) e rest in
    let others : count_by p rest ≡ 0 = h (book ++ e ∷ []) in
    omega arith

-- none of the kind, and then one entry
then_last : (p : Entry → Bool) (f : Effect) (e : Entry) (book : Book) → IsFree p f → count_by p (in_turn (f ∷ adds e ∷ []) book) ≤ cond (p e) 1 0
then_last p f e book h =
    let both = sum_by-append (λ (x : Entry). cond (p x) 1 0) (f book) (e ∷ []) in
    let last = sum_by-cons (λ (x : Entry). cond (p x) 1 0) e [] in
    let first = h book in
    omega arith

-- a stock round that ends adds the step at most
pub ending_counted : (p : Entry → Bool) (s : Spares p) (rows : List Row) (ends : Bool) (book : Book) → count_by p (ends_if rows ends book) ≤ cond (p (E.Step M.Operating)) 1 0
unfolding ends_stock_round
ending_counted p s rows true book = then_last p (rises rows) (E.Step M.Operating) book (rises_free p s rows)
ending_counted p s rows false book = omega arith

within : (a b c : ℕ) → a ≡ b → a ≤ b + c
within a b c e = omega arith

-- of the kind are at most the command and what the end of a stock round adds, where a sale moves none of the kind
pub row_counted : (p : Entry → Bool) (s : Spares p) (rows : List Row) (t : Situation) (act : Act) (book : Book) (most : ℕ)
    → ((seat : Seat) (c : Corp) (n : ℕ) → act ≡ A.Sell seat c n → IsFree p (sale_shares c seat n))
    → ((seat : Seat) → act ≡ A.Done seat → (later : Book) → count_by p (ends_if rows (ends_round t.progress) later) ≤ most)
    → count_by p (row rows t act book) ≤ cond (p (E.Step (M.Act act))) 1 0 + most
unfolding sets_par buys_share sells swaps ends_turn
row_counted p s rows t (A.Par seat c n) book most sold ended =
    let rest = takes_presidency rows seat c n ∷ float_if_due c (Some n) (has_floated t.progress c) ∷ [] in
    let free = free_two p (takes_presidency rows seat c n) (float_if_due c (Some n) (has_floated t.progress c)) (presidency_taken_free p s rows seat c n) (float_free p s c (Some n) (has_floated t.progress c)) in
    within (count_by p (in_turn (says (A.Par seat c n) ∷ rest) book)) (cond (p (E.Step (M.Act (A.Par seat c n)))) 1 0) most (one_then p (E.Step (M.Act (A.Par seat c n))) rest book free)
row_counted p s rows t (A.BuyShare seat c source) book most sold ended =
    let buy = gets_share seat c source (share_price t c source) in
    let rest = buy ∷ settles_in t c ∷ [] in
    let free = free_two p buy (settles_in t c) (share_free p s seat c source (share_price t c source)) (settled_free p s c (t.pars c) (has_floated t.progress c)) in
    within (count_by p (in_turn (says (A.BuyShare seat c source) ∷ rest) book)) (cond (p (E.Step (M.Act (A.BuyShare seat c source)))) 1 0) most (one_then p (E.Step (M.Act (A.BuyShare seat c source))) rest book free)
row_counted p s rows t (A.Sell seat c n) book most sold ended =
    let gets = pays_seller rows seat c n (proceeds t c n) in
    let rest = sale_shares c seat n ∷ gets ∷ [] in
    let free = free_two p (sale_shares c seat n) gets (sold seat c n refl) (seller_free p s rows seat c n (proceeds t c n)) in
    within (count_by p (in_turn (says (A.Sell seat c n) ∷ rest) book)) (cond (p (E.Step (M.Act (A.Sell seat c n)))) 1 0) most (one_then p (E.Step (M.Act (A.Sell seat c n))) rest book free)
row_counted p s rows t (A.Swap seat source) book most sold ended =
    let rest = gives_up_private seat source ∷ settles_in t Corp.Nyc ∷ [] in
    let free = free_two p (gives_up_private seat source) (settles_in t Corp.Nyc) (private_free p s seat source) (settled_free p s Corp.Nyc (t.pars Corp.Nyc) (has_floated t.progress Corp.Nyc)) in
    within (count_by p (in_turn (says (A.Swap seat source) ∷ rest) book)) (cond (p (E.Step (M.Act (A.Swap seat source)))) 1 0) most (one_then p (E.Step (M.Act (A.Swap seat source))) rest book free)
row_counted p s rows t (A.Done seat) book most sold ended =
    let e = E.Step (M.Act (A.Done seat)) in
    let end = ends_if rows (ends_round t.progress) in
    let more = end (book ++ e ∷ []) in
    let first = sum_by-cons (λ (x : Entry). cond (p x) 1 0) e (more ++ []) in
    let second = sum_by-append (λ (x : Entry). cond (p x) 1 0) more [] in
    let few : count_by p more ≤ most = ended seat refl (book ++ e ∷ []) in
    omega arith
row_counted p s rows t _ book most sold ended = omega arith
