-- Corporations that a command of a stock round doesn't concern.
use Rattle.std.specs.Prelude.{◌≡◌, ℕ, ◌*◌, Bool, true, false, List, [], ◌∷◌, ◌++◌, Some, map, option_map, refl, if◌then◌else◌}
use Rattle.rr_roster.specs.declared.company.Private.{Private}
use Rattle.rr_roster.specs.declared.company.Corp.{Corp}
use Rattle.rr_roster.specs.Chart.Chart.{Row, par_place}
use Rattle.rr_books.specs.declared.parties.Party.TheVariants as P
use Rattle.rr_books.specs.declared.parties.Seat.{Seat}
use Rattle.rr_books.specs.declared.parties.Place.TheVariants as L
use Rattle.rr_books.specs.declared.certificates.Cert.TheVariants as C
use Rattle.rr_books.specs.declared.entries.Entry.TheVariants as E
use Rattle.rr_books.specs.declared.entries.Marker.TheVariants as M
use Rattle.rr_books.specs.declared.acts.Act.TheVariants as A
use Rattle.rr_roster.specs.declared.sources.ShareSource.{ShareSource}
use Rattle.rr_books.specs.Book.{holder}
use Rattle.rr_books.specs.Same.{same_corp}
use Rattle.rr_desk.specs.Effects.{adds, in_turn, moves_lowest_share}
use Rattle.rr_desk.specs.Incomes.{dollars}
use Rattle.rr_shares.specs.Effects.{float_if_due, presidency, sale_shares}
use Rattle.rr_market.specs.Moves.{cell_above, cell_after_sale, cell_of, par_marks, sale_marks, sold_out_marks}
use Rattle.rr_market.specs.Order.{operating_order}
use Rattle.rr_rounds.specs.Round.{ends_round, has_floated}
use Rattle.rr_stock.specs.Rules.{place_of_source, share_price}
use Rattle.rr_stock.specs.Effects.{buys_share, ends_if, ends_stock_round, ends_turn, gets_share, gives_up_private, is_sold_out, pays_bank, pays_seller, proceeds, rises, rises_among, rises_if_sold_out, says, sells, sets_par, settles_corporation, settles_in, swaps, takes_presidency}
use Rattle.rr_stock.specs.Situation.{Situation}
use Rattle.rr_laws.proofs.SoundnessLemmas.Untouched.{IsUntouched, Spares, held_after, moved_private, promised_by, spares_float, spares_lowest, spares_mark, spares_none, spares_pay, spares_president, spares_presidency, spares_sale, spares_step, spares_then, spares_three, spares_token, spares_two}

-- commands that concern another corporation
pub par_spares : (c d : Corp) (rows : List Row) (t : Situation) (s : Seat) (m : ℕ) → same_corp c d ≡ false → Spares c (sets_par rows t s d m)
unfolding sets_par takes_presidency
par_spares c d rows t s m apart =
    spares_three c (says (A.Par s d m)) (takes_presidency rows s d m) (float_if_due d (Some m) (has_floated t.progress d))
    (spares_step c (M.Act (A.Par s d m)))
    (spares_three c (par_marks rows d m) (adds (E.Move (C.President d) (L.Seat s))) (pays_bank s (2 * m)) (λ book. spares_mark c d (option_map cell_of (par_place rows m)) book apart) (spares_president c d (L.Seat s) apart) (spares_pay c (P.Seat s) P.Bank (dollars (2 * m))))
    (spares_float c d (Some m) (has_floated t.progress d))

settling_spares : (c d : Corp) (t : Situation) → same_corp c d ≡ false → Spares c (settles_in t d)
unfolding settles_corporation
settling_spares c d t apart = spares_two c (presidency d) (float_if_due d (t.pars d) (has_floated t.progress d)) (spares_presidency c d apart) (spares_float c d (t.pars d) (has_floated t.progress d))

pub purchase_spares : (c d : Corp) (t : Situation) (s : Seat) (source : ShareSource) → same_corp c d ≡ false → Spares c (buys_share t s d source)
unfolding buys_share gets_share
purchase_spares c d t s source apart =
    let price = share_price t d source in
    spares_three c (says (A.BuyShare s d source)) (gets_share s d source price) (settles_in t d)
    (spares_step c (M.Act (A.BuyShare s d source)))
    (spares_two c (moves_lowest_share d (place_of_source source) (L.Seat s)) (pays_bank s price) (spares_lowest c d (place_of_source source) (L.Seat s) apart) (spares_pay c (P.Seat s) P.Bank (dollars price)))
    (settling_spares c d t apart)

pub sale_spares : (c d : Corp) (rows : List Row) (t : Situation) (s : Seat) (k : ℕ) → same_corp c d ≡ false → Spares c (sells rows t s d k)
unfolding sells pays_seller
sale_spares c d rows t s k apart =
    let amount = proceeds t d k in
    spares_three c (says (A.Sell s d k)) (sale_shares d s k) (pays_seller rows s d k amount)
    (spares_step c (M.Act (A.Sell s d k)))
    (spares_sale c d s k apart)
    (spares_two c (adds (E.Pay P.Bank (P.Seat s) (dollars amount))) (sale_marks rows k d) (spares_pay c P.Bank (P.Seat s) (dollars amount)) (spares_token (cell_after_sale rows k) c d))

-- the M&H leaves the game
pub gone_spares : (c : Corp) → Spares c (adds (E.Move (C.Private Private.Mh) L.Gone))
gone_spares c book =
    moved_private c Private.Mh L.Gone book refl
    (promised_by (holder book) (held_after book (E.Move (C.Private Private.Mh) L.Gone)) c (λ h. h) (λ h. refl))

pub swap_spares : (c : Corp) (t : Situation) (s : Seat) (source : ShareSource) → same_corp c Corp.Nyc ≡ false → Spares c (swaps t s source)
unfolding swaps gives_up_private
swap_spares c t s source apart =
    spares_three c (says (A.Swap s source)) (gives_up_private s source) (settles_in t Corp.Nyc)
    (spares_step c (M.Act (A.Swap s source)))
    (spares_two c (adds (E.Move (C.Private Private.Mh) L.Gone)) (moves_lowest_share Corp.Nyc (place_of_source source) (L.Seat s)) (gone_spares c) (spares_lowest c Corp.Nyc (place_of_source source) (L.Seat s) apart))
    (settling_spares c Corp.Nyc t apart)

-- a turn that ends concerns none
rise_spares : (c d : Corp) (rows : List Row) → Spares c (rises_if_sold_out rows d)
unfolding rises_if_sold_out
rise_spares c d rows book = by_test (is_sold_out (holder book) d)
  where
    by_test : (b : Bool) → IsUntouched c book (book ++ (if b then sold_out_marks rows d else in_turn []) book)
    by_test true = spares_token (cell_above rows) c d book
    by_test false = spares_none c book

among_spares : (c : Corp) (rows : List Row) (ds : List Corp) → Spares c (rises_among rows ds)
unfolding rises_among
among_spares c rows [] = spares_none c
among_spares c rows (d ∷ ds) = spares_then c (rises_if_sold_out rows d) (map (rises_if_sold_out rows) ds) (rise_spares c d rows) (among_spares c rows ds)

rises_spares : (c : Corp) (rows : List Row) → Spares c (rises rows)
unfolding rises
rises_spares c rows book = among_spares c rows (operating_order rows book) book

end_spares : (c : Corp) (rows : List Row) (ends : Bool) → Spares c (ends_if rows ends)
unfolding ends_stock_round
end_spares c rows true = spares_two c (rises rows) (adds (E.Step M.Operating)) (rises_spares c rows) (spares_step c M.Operating)
end_spares c rows false = spares_none c

pub done_spares : (c : Corp) (rows : List Row) (t : Situation) (s : Seat) → Spares c (ends_turn rows t s)
unfolding ends_turn
done_spares c rows t s = spares_two c (says (A.Done s)) (ends_if rows (ends_round t.progress)) (spares_step c (M.Act (A.Done s))) (end_spares c rows (ends_round t.progress))
