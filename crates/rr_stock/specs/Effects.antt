-- What a lawful command of a stock round adds to a table's book.
use Rattle.std.specs.Prelude.{ℕ, ◌*◌, ◌==◌, Bool, List, [], ◌∷◌, Option, Some, unwrap_or, map, if◌then◌else◌, ◌&&◌}
use Rattle.rr_roster.specs.declared.company.Private.{Private}
use Rattle.rr_roster.specs.declared.company.Corp.{Corp}
use Rattle.rr_roster.specs.Chart.Chart.{Row}
use Rattle.rr_books.specs.declared.parties.Seat.{Seat}
use Rattle.rr_books.specs.declared.parties.Party.TheVariants as P
use Rattle.rr_books.specs.declared.parties.Place.TheVariants as L
use Rattle.rr_books.specs.declared.certificates.Cert.TheVariants as C
use Rattle.rr_books.specs.declared.entries.Cell.{Cell}
use Rattle.rr_books.specs.declared.entries.Entry.TheVariants as E
use Rattle.rr_books.specs.declared.entries.Marker.TheVariants as M
use Rattle.rr_books.specs.declared.acts.Act.{Act}
use Rattle.rr_books.specs.declared.acts.Act.TheVariants as A
use Rattle.rr_roster.specs.declared.sources.ShareSource.{ShareSource}
use Rattle.rr_books.specs.Book.{Book, holder}
use Rattle.rr_books.specs.Shares.{Holders, share}
use Rattle.rr_desk.specs.Effects.{Effect, adds, in_turn, moves_lowest_share}
use Rattle.rr_market.specs.Moves.{mark_at, par_marks, sale_marks, sold_out_marks}
use Rattle.rr_market.specs.Order.{operating_order}
use Rattle.rr_shares.specs.Effects.{float_if_due, presidency, sale_shares}
use Rattle.rr_rounds.specs.Round.{ends_round, has_floated}
use Rattle.rr_desk.specs.Incomes.{dollars}
use Rattle.rr_stock.specs.Rules.{place_of_source, share_price}
use Rattle.rr_stock.specs.Situation.{Situation, situation_of}

-- the mark of a token at a cell, if there is one
abbrev pub marks : Corp → Option Cell → Effect
marks c cell book = mark_at c cell

-- the command is taken down
abbrev pub says : Act → Effect
says act = adds (E.Step (M.Act act))

abbrev pub pays_bank : Seat → ℕ → Effect
pays_bank s amount = adds (E.Pay (P.Seat s) P.Bank (dollars amount))

-- a seat gets a corporation's 20% certificate for twice the par, at which the token is put on the chart
unfoldable pub takes_presidency : List Row → Seat → Corp → ℕ → Effect
takes_presidency rows s c n = in_turn (par_marks rows c n ∷ adds (E.Move (C.President c) (L.Seat s)) ∷ pays_bank s (2 * n) ∷ [])

-- a seat sets a corporation's par
unfoldable pub sets_par : List Row → Situation → Seat → Corp → ℕ → Effect
sets_par rows t s c n = in_turn (says (A.Par s c n) ∷ takes_presidency rows s c n ∷ float_if_due c (Some n) (has_floated t.progress c) ∷ [])

-- a seat gets the lowest 10% certificate that is there, for a price
unfoldable pub gets_share : Seat → Corp → ShareSource → ℕ → Effect
gets_share s c source price = in_turn (moves_lowest_share c (place_of_source source) (L.Seat s) ∷ pays_bank s price ∷ [])

-- what a seat's new share may bring about: another president, and the corporation's float
unfoldable pub settles_corporation : Corp → Option ℕ → Bool → Effect
settles_corporation c par floated = in_turn (presidency c ∷ float_if_due c par floated ∷ [])

abbrev pub settles_in : Situation → Corp → Effect
settles_in t c = settles_corporation c (t.pars c) (has_floated t.progress c)

-- a seat buys a 10% certificate
unfoldable pub buys_share : Situation → Seat → Corp → ShareSource → Effect
buys_share t s c source = in_turn (says (A.BuyShare s c source) ∷ gets_share s c source (share_price t c source) ∷ settles_in t c ∷ [])

-- what a seller gets for so many 10% shares: the price before the sale for each
abbrev pub proceeds : Situation → Corp → ℕ → ℕ
proceeds t c n = n * unwrap_or (t.holdings.prices c) 0

-- a seller gets an amount, and the token falls a row for each of so many 10% shares
unfoldable pub pays_seller : List Row → Seat → Corp → ℕ → ℕ → Effect
pays_seller rows s c n amount = in_turn (adds (E.Pay P.Bank (P.Seat s) (dollars amount)) ∷ sale_marks rows n c ∷ [])

-- a seat sells so many 10% shares
unfoldable pub sells : List Row → Situation → Seat → Corp → ℕ → Effect
sells rows t s c n = in_turn (says (A.Sell s c n) ∷ sale_shares c s n ∷ pays_seller rows s c n (proceeds t c n) ∷ [])

-- the M&H leaves the game for the lowest 10% certificate of the NYC that is there
unfoldable pub gives_up_private : Seat → ShareSource → Effect
gives_up_private s source = in_turn (adds (E.Move (C.Private Private.Mh) L.Gone) ∷ moves_lowest_share Corp.Nyc (place_of_source source) (L.Seat s) ∷ [])

-- a seat changes the M&H for a 10% certificate of the NYC
unfoldable pub swaps : Situation → Seat → ShareSource → Effect
swaps t s source = in_turn (says (A.Swap s source) ∷ gives_up_private s source ∷ settles_in t Corp.Nyc ∷ [])

-- neither the offer nor the pool has a share of the corporation
abbrev pub is_sold_out : Holders → Corp → Bool
is_sold_out holders c = (share holders L.Offer c == 0) && (share holders L.Pool c == 0)

-- a corporation's token goes up a row if it is sold out
unfoldable pub rises_if_sold_out : List Row → Corp → Effect
rises_if_sold_out rows c book = (if is_sold_out (holder book) c then sold_out_marks rows c else in_turn []) book

-- the tokens of those of these corporations that are sold out go up, one after another
unfoldable pub rises_among : List Row → List Corp → Effect
rises_among rows cs = in_turn (map (rises_if_sold_out rows) cs)

-- the tokens of all that are sold out go up, in the operating order before any of them does
unfoldable pub rises : List Row → Effect
rises rows book = rises_among rows (operating_order rows book) book

-- the stock round ends, and an operating round begins
unfoldable pub ends_stock_round : List Row → Effect
ends_stock_round rows = in_turn (rises rows ∷ adds (E.Step M.Operating) ∷ [])

abbrev pub ends_if : List Row → Bool → Effect
ends_if rows ends = if ends then ends_stock_round rows else in_turn []

-- a seat ends its turn, and the round where all seats have passed in a row with it
unfoldable pub ends_turn : List Row → Situation → Seat → Effect
ends_turn rows t s = in_turn (says (A.Done s) ∷ ends_if rows (ends_round t.progress) ∷ [])

-- what a command that isn't refused adds
abbrev pub row : List Row → Situation → Act → Effect
row rows t (A.Par s c n) = sets_par rows t s c n
row rows t (A.BuyShare s c source) = buys_share t s c source
row rows t (A.Sell s c n) = sells rows t s c n
row rows t (A.Swap s source) = swaps t s source
row rows t (A.Done s) = ends_turn rows t s
row rows t _ = in_turn []

abbrev pub entries_of : List Row → Book → Act → Book
entries_of rows book act = row rows (situation_of rows book) act book
