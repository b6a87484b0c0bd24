-- What a command of a stock round adds of itself leaves an auction that is over as it is, is of no corporation's turn, and moves no train.
use Rattle.std.specs.Prelude.{◌≡◌, ℕ, zero, suc, ◌*◌, Bool, true, false, cond, List, [], ◌∷◌, Option, None, Some, find, map, option_and_then, option_map, refl, if◌then◌else◌}
use Rattle.std.specs.List.{list_all}
use Rattle.rr_roster.specs.declared.company.Private.{Private}
use Rattle.rr_roster.specs.declared.company.Corp.{Corp}
use Rattle.rr_roster.specs.Terms.{Terms, income_of}
use Rattle.rr_roster.specs.Chart.Chart.{Row, par_place}
use Rattle.rr_books.specs.declared.parties.Party.{Party}
use Rattle.rr_books.specs.declared.parties.Party.TheVariants as P
use Rattle.rr_books.specs.declared.parties.Seat.{Seat}
use Rattle.rr_books.specs.declared.parties.Place.{Place}
use Rattle.rr_books.specs.declared.parties.Place.TheVariants as L
use Rattle.rr_books.specs.declared.certificates.Cert.{Cert}
use Rattle.rr_books.specs.declared.certificates.Cert.TheVariants as C
use Rattle.rr_books.specs.declared.certificates.ShareNumber.{ShareNumber}
use Rattle.rr_books.specs.declared.entries.Cell.{Cell}
use Rattle.rr_books.specs.declared.entries.Entry.{Entry}
use Rattle.rr_books.specs.declared.entries.Entry.TheVariants as E
use Rattle.rr_books.specs.declared.entries.Marker.TheVariants as M
use Rattle.rr_books.specs.declared.acts.Act.{Act}
use Rattle.rr_books.specs.declared.acts.Act.TheVariants as A
use Rattle.rr_roster.specs.declared.sources.ShareSource.{ShareSource}
use Rattle.rr_books.specs.Book.{holder, players}
use Rattle.rr_books.specs.Shares.{is_at, share_numbers}
use Rattle.rr_desk.specs.Effects.{Effect, adds, in_turn, moves_if, moves_lowest_share}
use Rattle.rr_shares.specs.declared.succession.Handover.{Handover}
use Rattle.rr_shares.specs.Succession.{handover_after_sale, handover_due}
use Rattle.rr_shares.specs.Effects.{float, float_if_due, float_of, floats_now, hands_over, hands_over_if, moves_lowest_shares, presidency, presidency_after_sale, sale_shares}
use Rattle.rr_market.specs.Marks.{mark_of}
use Rattle.rr_market.specs.Moves.{cell_above, cell_after_sale, cell_of, mark_at, par_marks, sale_marks, sold_out_marks}
use Rattle.rr_market.specs.Order.{operating_order}
use Rattle.rr_rounds.specs.Round.{ends_round, has_floated}
use Rattle.rr_desk.specs.Incomes.{dollars, owner, pay_incomes_of, pays_if, pays_income}
use Rattle.rr_stock.specs.Situation.{Situation, situation_of}
use Rattle.rr_stock.specs.Rules.{place_of_source, share_price}
use Rattle.rr_stock.specs.Effects.{buys_share, ends_if, ends_stock_round, ends_turn, entries_of, gets_share, gives_up_private, is_sold_out, pays_bank, pays_seller, proceeds, rises, rises_among, rises_if_sold_out, row, sells, sets_par, settles_corporation, settles_in, swaps, takes_presidency}
use Rattle.rr_laws.proofs.Adding.{Adds, none_adds, one_adds, then_adds, three_add, two_add}
use Rattle.rr_laws.proofs.LeavesAuction.{is_calm, is_still, still_calm}

-- whatever the book, the effect leaves the auction alone, is of no turn, begins no round, and moves no train
abbrev pub Leaves : Effect → Type 0
Leaves f = Adds is_still f

-- the same, except that it may begin a round
abbrev pub Calms : Effect → Type 0
Calms f = Adds is_calm f

pub leaves_calm : (f : Effect) → Leaves f → Calms f
leaves_calm f h book = still_calm (f book) (h book)

pub none_calms : Calms (in_turn [])
none_calms = none_adds is_calm

pub two_calm : (f g : Effect) → Calms f → Calms g → Calms (in_turn (f ∷ g ∷ []))
two_calm f g h k = two_add is_calm f g h k

pub none_leaves : Leaves (in_turn [])
none_leaves = none_adds is_still

pub then_leaves : (f : Effect) (fs : List Effect) → Leaves f → Leaves (in_turn fs) → Leaves (in_turn (f ∷ fs))
then_leaves f fs h k = then_adds is_still f fs h k

pub two_leave : (f g : Effect) → Leaves f → Leaves g → Leaves (in_turn (f ∷ g ∷ []))
two_leave f g h k = two_add is_still f g h k

pub three_leave : (f g i : Effect) → Leaves f → Leaves g → Leaves i → Leaves (in_turn (f ∷ g ∷ i ∷ []))
three_leave f g i h k l = three_add is_still f g i h k l

pub one_leaves : (e : Entry) → is_still e ≡ true → Leaves (adds e)
one_leaves e h = one_adds is_still e h

pub test_leaves : (b : Bool) (f : Effect) → Leaves f → Leaves (λ book. (if b then f else in_turn []) book)
test_leaves true f h book = h book
test_leaves false f h book = refl

-- of the certificates of a corporation the lowest that meets a test
share_leaves : (test : Cert → Bool) (c : Corp) (to : Place) (ns : List ShareNumber) → list_all is_still (moves_if (find test (map (λ n. C.Share c n) ns)) to) ≡ true
share_leaves test c to [] = refl
share_leaves test c to (n ∷ ns) = by_test (test (C.Share c n)) n _ (share_leaves test c to ns)
  where
    by_test : (b : Bool) (n : ShareNumber) (others : Option Cert) → list_all is_still (moves_if others to) ≡ true → list_all is_still (moves_if (cond b (Some (C.Share c n)) others) to) ≡ true
    by_test true n others h = refl
    by_test false n others h = h

pub lowest_leaves : (c : Corp) (from to : Place) → Leaves (moves_lowest_share c from to)
lowest_leaves c from to book = share_leaves (λ cert. is_at (holder book cert) from) c to share_numbers

several_leave : (c : Corp) (n : ℕ) (from to : Place) → Leaves (moves_lowest_shares c n from to)
unfolding moves_lowest_shares
several_leave c zero from to = none_leaves
several_leave c (suc n) from to = two_leave (moves_lowest_shares c n from to) (moves_lowest_share c from to) (several_leave c n from to) (lowest_leaves c from to)

handover_leaves : (c : Corp) (h : Handover) → Leaves (hands_over c h)
unfolding hands_over
handover_leaves c h =
    two_leave (moves_lowest_shares c 2 (L.Seat h.to) (L.Seat h.from)) (adds (E.Move (C.President c) (L.Seat h.to))) (several_leave c 2 (L.Seat h.to) (L.Seat h.from))
    (one_leaves (E.Move (C.President c) (L.Seat h.to)) refl)

handover_if_leaves : (c : Corp) (h : Option Handover) → Leaves (hands_over_if c h)
handover_if_leaves c None = none_leaves
handover_if_leaves c (Some h) = handover_leaves c h

presidency_leaves : (c : Corp) → Leaves (presidency c)
unfolding presidency
presidency_leaves c book = handover_if_leaves c (handover_due (holder book) (players book) c) book

pub sale_leaves : (c : Corp) (seller : Seat) (n : ℕ) → Leaves (sale_shares c seller n)
unfolding sale_shares presidency_after_sale
sale_leaves c seller n =
    two_leave (presidency_after_sale c seller n) (moves_lowest_shares c n (L.Seat seller) L.Pool) (λ book. handover_if_leaves c (handover_after_sale (holder book) (players book) c seller n) book)
    (several_leave c n (L.Seat seller) L.Pool)

float_of_leaves : (c : Corp) (par : Option ℕ) → Leaves (float_of c par)
unfolding float
float_of_leaves c None = none_leaves
float_of_leaves c (Some par) = λ book. refl

float_leaves : (c : Corp) (par : Option ℕ) (floated : Bool) → Leaves (float_if_due c par floated)
unfolding float_if_due
float_leaves c par floated book = test_leaves (floats_now (holder book) c par floated) (float_of c par) (float_of_leaves c par) book

pays_if_leaves : (party : Option Party) (n : ℕ) → Leaves (pays_if party n)
pays_if_leaves None n = λ book. refl
pays_if_leaves (Some party) n = λ book. refl

pub incomes_leave : (roster : Terms) (ps : List Private) → Leaves (pay_incomes_of roster ps)
unfolding pay_incomes_of pays_income
incomes_leave roster [] = none_leaves
incomes_leave roster (x ∷ xs) =
    then_leaves (pays_income roster x) (map (pays_income roster) xs) (λ book. pays_if_leaves (owner (players book) (holder book (C.Private x))) (income_of roster x) book) (incomes_leave roster xs)

pub mark_leaves : (c : Corp) (cell : Option Cell) → list_all is_still (mark_at c cell) ≡ true
mark_leaves c None = refl
mark_leaves c (Some cell) = refl

presidency_taken_leaves : (rows : List Row) (seat : Seat) (c : Corp) (n : ℕ) → Leaves (takes_presidency rows seat c n)
unfolding takes_presidency
presidency_taken_leaves rows seat c n =
    three_leave (par_marks rows c n) (adds (E.Move (C.President c) (L.Seat seat))) (pays_bank seat (2 * n))
    (λ book. mark_leaves c (option_map cell_of (par_place rows n))) (λ book. refl) (λ book. refl)

share_bought_leaves : (seat : Seat) (c : Corp) (source : ShareSource) (price : ℕ) → Leaves (gets_share seat c source price)
unfolding gets_share
share_bought_leaves seat c source price =
    two_leave (moves_lowest_share c (place_of_source source) (L.Seat seat)) (pays_bank seat price) (lowest_leaves c (place_of_source source) (L.Seat seat)) (λ book. refl)

settled_leaves : (c : Corp) (par : Option ℕ) (floated : Bool) → Leaves (settles_corporation c par floated)
unfolding settles_corporation
settled_leaves c par floated = two_leave (presidency c) (float_if_due c par floated) (presidency_leaves c) (float_leaves c par floated)

private_given_leaves : (seat : Seat) (source : ShareSource) → Leaves (gives_up_private seat source)
unfolding gives_up_private
private_given_leaves seat source =
    two_leave (adds (E.Move (C.Private Private.Mh) L.Gone)) (moves_lowest_share Corp.Nyc (place_of_source source) (L.Seat seat)) (λ book. refl)
    (lowest_leaves Corp.Nyc (place_of_source source) (L.Seat seat))

pub seller_leaves : (rows : List Row) (seat : Seat) (c : Corp) (n amount : ℕ) → Leaves (pays_seller rows seat c n amount)
unfolding pays_seller
seller_leaves rows seat c n amount =
    two_leave (adds (E.Pay P.Bank (P.Seat seat) (dollars amount))) (sale_marks rows n c) (λ book. refl) (λ book. mark_leaves c (option_and_then (cell_after_sale rows n) (mark_of book c)))

rise_leaves : (rows : List Row) (c : Corp) → Leaves (rises_if_sold_out rows c)
unfolding rises_if_sold_out
rise_leaves rows c book =
    test_leaves (is_sold_out (holder book) c) (sold_out_marks rows c) (λ later. mark_leaves c (option_and_then (cell_above rows) (mark_of later c))) book

among_leave : (rows : List Row) (cs : List Corp) → Leaves (rises_among rows cs)
unfolding rises_among
among_leave rows [] = none_leaves
among_leave rows (c ∷ cs) = then_leaves (rises_if_sold_out rows c) (map (rises_if_sold_out rows) cs) (rise_leaves rows c) (among_leave rows cs)

ending_calm : (rows : List Row) (ends : Bool) → Calms (ends_if rows ends)
unfolding ends_stock_round rises
ending_calm rows false = none_calms
ending_calm rows true =
    two_calm (rises rows) (adds (E.Step M.Operating)) (λ book. still_calm (rises rows book) (among_leave rows (operating_order rows book) book)) (λ book. refl)

row_calm : (rows : List Row) (t : Situation) (act : Act) → Calms (row rows t act)
unfolding sets_par buys_share sells swaps ends_turn
row_calm rows t (A.Par seat c n) =
    leaves_calm (row rows t (A.Par seat c n))
    (three_leave (adds (E.Step (M.Act (A.Par seat c n)))) (takes_presidency rows seat c n) (float_if_due c (Some n) (has_floated t.progress c)) (λ book. refl) (presidency_taken_leaves rows seat c n)
    (float_leaves c (Some n) (has_floated t.progress c)))
row_calm rows t (A.BuyShare seat c source) =
    leaves_calm (row rows t (A.BuyShare seat c source))
    (three_leave (adds (E.Step (M.Act (A.BuyShare seat c source)))) (gets_share seat c source (share_price t c source)) (settles_in t c) (λ book. refl) (share_bought_leaves seat c source (share_price t c source))
    (settled_leaves c (t.pars c) (has_floated t.progress c)))
row_calm rows t (A.Sell seat c n) =
    leaves_calm (row rows t (A.Sell seat c n))
    (three_leave (adds (E.Step (M.Act (A.Sell seat c n)))) (sale_shares c seat n) (pays_seller rows seat c n (proceeds t c n)) (λ book. refl) (sale_leaves c seat n)
    (seller_leaves rows seat c n (proceeds t c n)))
row_calm rows t (A.Swap seat source) =
    leaves_calm (row rows t (A.Swap seat source))
    (three_leave (adds (E.Step (M.Act (A.Swap seat source)))) (gives_up_private seat source) (settles_in t Corp.Nyc) (λ book. refl) (private_given_leaves seat source)
    (settled_leaves Corp.Nyc (t.pars Corp.Nyc) (has_floated t.progress Corp.Nyc)))
row_calm rows t (A.Done seat) =
    two_calm (adds (E.Step (M.Act (A.Done seat)))) (ends_if rows (ends_round t.progress)) (λ book. refl) (ending_calm rows (ends_round t.progress))
row_calm rows t _ = none_calms

pub act_calm : (rows : List Row) (act : Act) → Calms (λ book. entries_of rows book act)
act_calm rows act book = row_calm rows (situation_of rows book) act book
