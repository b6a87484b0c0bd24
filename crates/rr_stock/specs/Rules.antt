-- The rules of a stock round, from a table's book and the stock chart alone.
use Rattle.std.specs.Prelude.{ℕ, ◌*◌, pos, int_lt, Bool, true, false, not, List, Option, None, Some, is_some, unwrap_or, if◌then◌else◌, ◌&&◌}
use Rattle.std.specs.Option.{option_or}
use Rattle.rr_roster.specs.declared.company.Private.{Private}
use Rattle.rr_roster.specs.declared.company.Corp.{Corp}
use Rattle.rr_roster.specs.Chart.Chart.{Row}
use Rattle.rr_roster.specs.declared.chart.cell.Zone.{Zone}
use Rattle.rr_roster.specs.declared.chart.cell.Zone.TheVariants as Z
use Rattle.rr_books.specs.declared.parties.Seat.{Seat}
use Rattle.rr_books.specs.declared.parties.Party.TheVariants as P
use Rattle.rr_books.specs.declared.parties.Place.{Place}
use Rattle.rr_books.specs.declared.parties.Place.TheVariants as L
use Rattle.rr_books.specs.declared.certificates.Cert.TheVariants as C
use Rattle.rr_books.specs.declared.acts.Act.{Act}
use Rattle.rr_books.specs.declared.acts.Act.TheVariants as A
use Rattle.rr_roster.specs.declared.sources.ShareSource.{ShareSource}
use Rattle.rr_roster.specs.declared.sources.ShareSource.TheVariants as S
use Rattle.rr_books.specs.Book.{Book}
use Rattle.rr_books.specs.Shares.{Holders, is_at}
use Rattle.rr_books.specs.Same.{same_seat}
use Rattle.rr_desk.specs.Effects.{lowest_share}
use Rattle.rr_market.specs.Moves.{is_par}
use Rattle.rr_rounds.specs.declared.purchases.Purchases.{Purchases}
use Rattle.rr_rounds.specs.declared.purchases.Purchases.TheVariants as U
use Rattle.rr_rounds.specs.Round.{Round, has_sold, is_first, may_buy_again}
use Rattle.rr_shares.specs.Limits.Limits.{would_be_over_certificates, would_be_over_sixty}
use Rattle.rr_shares.specs.Limits.Sales.{must_sell_first, sell_verdict}
use Rattle.rr_books.specs.declared.refusal.Refusal.{Refusal}
use Rattle.rr_books.specs.declared.refusal.Refusal.TheVariants as F
use Rattle.rr_stock.specs.Situation.{Situation, situation_of}

-- where the shares of a source are
abbrev pub place_of_source : ShareSource → Place
place_of_source S.Offer = L.Offer
place_of_source S.Pool = L.Pool

-- some 10% certificate of the corporation is there
abbrev pub has_share : Holders → Corp → ShareSource → Bool
has_share holders c source = is_some (lowest_share holders c (place_of_source source))

-- what a share costs: the par from the offer, the market price from the pool
abbrev pub price_by_source : Option ℕ → Option ℕ → ShareSource → ℕ
price_by_source par price S.Offer = unwrap_or par 0
price_by_source par price S.Pool = unwrap_or price 0

abbrev pub share_price : Situation → Corp → ShareSource → ℕ
share_price t c source = price_by_source (t.pars c) (t.holdings.prices c) source

abbrev pub is_brown : Option Zone → Bool
is_brown (Some Z.Brown) = true
is_brown _ = false

-- something was bought in the turn under way
abbrev pub is_purchase : Purchases → Bool
is_purchase U.Nothing = false
is_purchase _ = true

-- the seat holds too much and may only sell or swap
abbrev pub must_sell : Situation → Seat → Bool
must_sell t s = must_sell_first t.holdings (is_first t.progress) s

-- the seat has less than the amount
abbrev pub is_short : Situation → Seat → ℕ → Bool
is_short t s amount = int_lt (t.money (P.Seat s)) (pos amount)

-- why a seat can't act in a stock round now, if it can't
unfoldable pub turn_verdict : Round → Seat → Option Refusal
turn_verdict r s =
    if not r.under_way then Some F.WrongStep
    else if not (same_seat s r.turn) then Some F.NotYourTurn
    else None

-- why a corporation's par can't be set, if it can't
unfoldable pub par_verdict : List Row → Situation → Seat → Corp → ℕ → Option Refusal
par_verdict rows t s c n =
    if must_sell t s then Some F.MustSellFirst
    else if not (is_at (t.holdings.holders (C.President c)) L.Offer) then Some F.NotForSale
    else if not (is_par rows n) then Some F.NotAPar
    else if is_purchase t.progress.purchases then Some F.SecondPurchase
    else if would_be_over_certificates t.holdings s c then Some F.CertificateLimit
    else if would_be_over_sixty t.holdings s c 20 then Some F.OverSixty
    else if is_short t s (2 * n) then Some F.TooLittleCash
    else None

-- why a share can't be bought, if it can't
unfoldable pub purchase_verdict : Situation → Seat → Corp → ShareSource → Option Refusal
purchase_verdict t s c source =
    if must_sell t s then Some F.MustSellFirst
    else if not (has_share t.holdings.holders c source && is_some (t.pars c)) then Some F.NotForSale
    else if not (may_buy_again (is_brown (t.holdings.zones c)) source c t.progress) then Some F.SecondPurchase
    else if has_sold t.progress s c then Some F.SoldThisRound
    else if would_be_over_certificates t.holdings s c then Some F.CertificateLimit
    else if would_be_over_sixty t.holdings s c 10 then Some F.OverSixty
    else if is_short t s (share_price t c source) then Some F.TooLittleCash
    else None

-- why so many 10% shares can't be sold, if they can't
unfoldable pub sale_verdict : Situation → Seat → Corp → ℕ → Option Refusal
sale_verdict t s c n = sell_verdict t.holdings (is_first t.progress) s c n

-- why the M&H can't be changed for a share of the NYC, if it can't
unfoldable pub swap_verdict : Situation → Seat → ShareSource → Option Refusal
swap_verdict t s source =
    if not (is_at (t.holdings.holders (C.Private Private.Mh)) (L.Seat s) && has_share t.holdings.holders Corp.Nyc source) then Some F.NotForSale
    else if would_be_over_sixty t.holdings s Corp.Nyc 10 then Some F.OverSixty
    else None

-- why a turn can't end, if it can't
unfoldable pub done_verdict : Situation → Seat → Option Refusal
done_verdict t s = if must_sell t s then Some F.MustSellFirst else None

-- why a command is refused, if it is: it must be one of the stock round under way, by the seat in turn, and the rules
-- must allow it
abbrev pub verdict_in : List Row → Situation → Act → Option Refusal
verdict_in rows t (A.Par s c n) = option_or (turn_verdict t.progress s) (par_verdict rows t s c n)
verdict_in rows t (A.BuyShare s c source) = option_or (turn_verdict t.progress s) (purchase_verdict t s c source)
verdict_in rows t (A.Sell s c n) = option_or (turn_verdict t.progress s) (sale_verdict t s c n)
verdict_in rows t (A.Swap s source) = option_or (turn_verdict t.progress s) (swap_verdict t s source)
verdict_in rows t (A.Done s) = option_or (turn_verdict t.progress s) (done_verdict t s)
verdict_in rows t _ = Some F.WrongStep

abbrev pub verdict : List Row → Book → Act → Option Refusal
verdict rows book act = verdict_in rows (situation_of rows book) act
