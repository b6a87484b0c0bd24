-- The rules of sales, stock rounds, the auction, purchases and dividends never refuse a command for want of memory.
use Rattle.std.specs.Prelude.{◌≡◌, ◌≢◌, ℕ, ◌+◌, ◌-◌, ◌*◌, ◌==◌, nat_lt, Bool, true, false, not, List, Option, None, Some, is_some, refl, if◌then◌else◌}
use Rattle.std.specs.Option.{option_or}
use Rattle.std.proofs.Common.{◌∙◌, ap}
use Rattle.std.proofs.lemmas.Bool.{false≢true}
use Rattle.rr_roster.specs.declared.company.Corp.{Corp}
use Rattle.rr_roster.specs.declared.company.Kind.{Kind}
use Rattle.rr_roster.specs.declared.company.Private.{Private}
use Rattle.rr_roster.specs.declared.sources.ShareSource.{ShareSource}
use Rattle.rr_roster.specs.declared.sources.TrainSource.{TrainSource}
use Rattle.rr_roster.specs.Terms.{Terms}
use Rattle.rr_roster.specs.Chart.Chart.{Row}
use Rattle.rr_books.specs.declared.acts.Act.{Act}
use Rattle.rr_books.specs.declared.acts.Act.TheVariants as A
use Rattle.rr_books.specs.declared.parties.Money.{Money}
use Rattle.rr_books.specs.declared.parties.Place.TheVariants as L
use Rattle.rr_books.specs.declared.parties.Seat.{Seat}
use Rattle.rr_books.specs.declared.refusal.Refusal.{Refusal}
use Rattle.rr_books.specs.declared.refusal.Refusal.TheVariants as V
use Rattle.rr_books.specs.Book.{Book, balance, holder}
use Rattle.rr_books.specs.Shares.{Holders, share}
use Rattle.rr_rounds.specs.Bids.Bids.{least_bid}
use Rattle.rr_rounds.specs.Bids.Progress.{Progress, progress}
use Rattle.rr_rounds.specs.Bids.Unsold.{cheapest}
use Rattle.rr_rounds.specs.Round.{Round}
use Rattle.rr_shares.specs.Limits.Holdings.{Holdings, percent_of}
use Rattle.rr_shares.specs.Limits.Sales.{leaves_no_president, sale_verdict}
use Rattle.rr_stock.specs.Rules as stock
use Rattle.rr_stock.specs.Situation as trading
use Rattle.rr_auction.specs.Rules as auction
use Rattle.rr_trains.specs.Depot.Rules as depot
use Rattle.rr_trains.specs.Depot.Situation as buying
use Rattle.rr_operate.specs.Dividends.Dividends.{pay_verdict}

-- want of memory, and the other refusals, which are those of the rules
abbrev pub want : Refusal
want = V.OutOfMemory

abbrev pub is_of_rule : Refusal → Bool
is_of_rule V.OutOfMemory = false
is_of_rule _ = true

-- the checks don't find want of memory
abbrev pub Spares : Option Refusal → Type 0
Spares o = Some want ≢ o

pub none_spares : Spares None
none_spares same = cc

pub some_spares : (f : Refusal) → is_of_rule f ≡ true → Spares (Some f)
some_spares f rule same =
    let e : want ≡ f = cc in
    false≢true (ap is_of_rule e ∙ rule)

pub if_spares : (b : Bool) (f : Refusal) (o : Option Refusal) → is_of_rule f ≡ true → Spares o → Spares (if b then Some f else o)
if_spares true f o rule h = some_spares f rule
if_spares false f o rule h = h

pub unless_spares : (b : Bool) (f : Refusal) → is_of_rule f ≡ true → Spares (if b then None else Some f)
unless_spares true f rule = none_spares
unless_spares false f rule = some_spares f rule

pub or_spares : (a b : Option Refusal) → Spares a → Spares b → Spares (option_or a b)
or_spares None b h k = k
or_spares (Some f) b h k = h

-- a sale of shares

pub sale_spares : (h : Holdings) (s : Seat) (c : Corp) (n : ℕ) → Spares (sale_verdict h s c n)
sale_spares h s c n =
    if_spares (not (is_some (h.prices c))) V.NotForSale _ refl
    (if_spares (n == 0) V.NotForSale _ refl
    (if_spares (nat_lt (percent_of h s c) (10 * n)) V.NotForSale _ refl
    (if_spares (leaves_no_president h.players h.holders s c (percent_of h s c - 10 * n)) V.NotForSale _ refl
    (if_spares (nat_lt 50 (share h.holders L.Pool c + 10 * n)) V.PoolOverHalf None refl none_spares))))

-- a stock round

seat_spares : (r : Round) (s : Seat) → Spares (stock.turn_verdict r s)
unfolding stock.turn_verdict
seat_spares r s = if_spares _ V.WrongStep _ refl (if_spares _ V.NotYourTurn None refl none_spares)

par_spares : (rows : List Row) (t : trading.Situation) (s : Seat) (c : Corp) (n : ℕ) → Spares (stock.par_verdict rows t s c n)
unfolding stock.par_verdict
par_spares rows t s c n =
    if_spares _ V.MustSellFirst _ refl
    (if_spares _ V.NotForSale _ refl
    (if_spares _ V.NotAPar _ refl
    (if_spares _ V.SecondPurchase _ refl
    (if_spares _ V.CertificateLimit _ refl
    (if_spares _ V.OverSixty _ refl
    (if_spares _ V.TooLittleCash None refl none_spares))))))

share_spares : (t : trading.Situation) (s : Seat) (c : Corp) (source : ShareSource) → Spares (stock.purchase_verdict t s c source)
unfolding stock.purchase_verdict
share_spares t s c source =
    if_spares _ V.MustSellFirst _ refl
    (if_spares _ V.NotForSale _ refl
    (if_spares _ V.SecondPurchase _ refl
    (if_spares _ V.SoldThisRound _ refl
    (if_spares _ V.CertificateLimit _ refl
    (if_spares _ V.OverSixty _ refl
    (if_spares _ V.TooLittleCash None refl none_spares))))))

selling_spares : (t : trading.Situation) (s : Seat) (c : Corp) (n : ℕ) → Spares (stock.sale_verdict t s c n)
unfolding stock.sale_verdict
selling_spares t s c n = if_spares _ V.FirstStockRound _ refl (sale_spares t.holdings s c n)

swap_spares : (t : trading.Situation) (s : Seat) (source : ShareSource) → Spares (stock.swap_verdict t s source)
unfolding stock.swap_verdict
swap_spares t s source = if_spares _ V.NotForSale _ refl (if_spares _ V.OverSixty None refl none_spares)

done_spares : (t : trading.Situation) (s : Seat) → Spares (stock.done_verdict t s)
unfolding stock.done_verdict
done_spares t s = if_spares _ V.MustSellFirst None refl none_spares

trade_spares : (rows : List Row) (t : trading.Situation) (act : Act) → Spares (stock.verdict_in rows t act)
trade_spares rows t (A.Par s c n) = or_spares (stock.turn_verdict t.progress s) (stock.par_verdict rows t s c n) (seat_spares t.progress s) (par_spares rows t s c n)
trade_spares rows t (A.BuyShare s c source) = or_spares (stock.turn_verdict t.progress s) (stock.purchase_verdict t s c source) (seat_spares t.progress s) (share_spares t s c source)
trade_spares rows t (A.Sell s c n) = or_spares (stock.turn_verdict t.progress s) (stock.sale_verdict t s c n) (seat_spares t.progress s) (selling_spares t s c n)
trade_spares rows t (A.Swap s source) = or_spares (stock.turn_verdict t.progress s) (stock.swap_verdict t s source) (seat_spares t.progress s) (swap_spares t s source)
trade_spares rows t (A.Done s) = or_spares (stock.turn_verdict t.progress s) (stock.done_verdict t s) (seat_spares t.progress s) (done_spares t s)
trade_spares rows t _ = some_spares V.WrongStep refl

pub stock_spares : (rows : List Row) (book : Book) (act : Act) → Spares (stock.verdict rows book act)
stock_spares rows book act = trade_spares rows (trading.situation_of rows book) act

-- the auction

spending_spares : (money : auction.Accounts) (places : Holders) (a : Progress) (s : Seat) (p : Private) (amount : ℕ) → Spares (auction.spending_verdict money places a s p amount)
spending_spares money places a s p amount = if_spares _ V.TooLittleCash _ refl (if_spares _ V.CashTiedUp None refl none_spares)

price_spares : (roster : Terms) (money : auction.Accounts) (places : Holders) (a : Progress) (s : Seat) (for_sale : Option Private) → Spares (auction.price_verdict roster money places a s for_sale)
price_spares roster money places a s None = some_spares V.WrongStep refl
price_spares roster money places a s (Some p) = spending_spares money places a s p (auction.price roster a.falls p)

private_spares : (roster : Terms) (money : auction.Accounts) (places : Holders) (a : Progress) (s : Seat) → Spares (auction.purchase_verdict roster money places a s)
private_spares roster money places a s =
    if_spares _ V.WrongStep _ refl (if_spares _ V.NotYourTurn _ refl (price_spares roster money places a s (cheapest places)))

bid_spares : (roster : Terms) (money : auction.Accounts) (places : Holders) (a : Progress) (s : Seat) (p : Private) (amount : ℕ) → Spares (auction.bid_verdict roster money places a s p amount)
bid_spares roster money places a s p amount =
    if_spares _ V.WrongStep _ refl
    (if_spares _ V.NotYourTurn _ refl
    (if_spares _ V.NotForSale _ refl
    (if_spares _ (V.BidTooLow (least_bid roster a.bids p)) _ refl (spending_spares money places a s p amount))))

pass_spares : (roster : Terms) (places : Holders) (a : Progress) (s : Seat) → Spares (auction.pass_verdict roster places a s)
pass_spares roster places a s = if_spares _ V.WrongStep _ refl (if_spares _ V.NotYourTurn None refl none_spares)

owed_spares : (rows : List Row) (owing : Option Seat) (s : Seat) (c : Corp) (n : ℕ) → Spares (auction.par_verdict rows owing s c n)
owed_spares rows None s c n = some_spares V.WrongStep refl
owed_spares rows (Some owing) s c n =
    if_spares _ V.NotYourTurn _ refl (if_spares _ V.NotForSale _ refl (if_spares _ V.NotAPar None refl none_spares))

bidding_spares : (roster : Terms) (rows : List Row) (money : auction.Accounts) (places : Holders) (a : Progress) (act : Act) → Spares (auction.verdict_in roster rows money places a act)
bidding_spares roster rows money places a (A.BuyPrivate s) = private_spares roster money places a s
bidding_spares roster rows money places a (A.Bid s p amount) = bid_spares roster money places a s p amount
bidding_spares roster rows money places a (A.Pass s) = pass_spares roster places a s
bidding_spares roster rows money places a (A.Par s c n) = owed_spares rows a.par_due s c n
bidding_spares roster rows money places a _ = some_spares V.WrongStep refl

pub auction_spares : (roster : Terms) (rows : List Row) (book : Book) (act : Act) → Spares (auction.verdict roster rows book act)
auction_spares roster rows book act = bidding_spares roster rows (balance book) (holder book) (progress book) act

-- trains and privates that a corporation buys, and trains given up

train_spares : (roster : Terms) (t : buying.Situation) (c : Corp) (kind : Kind) (source : TrainSource) → Spares (depot.train_verdict roster t c kind source)
unfolding depot.train_verdict
train_spares roster t c kind source =
    if_spares _ V.NotOnSale _ refl (if_spares _ V.TrainLimit _ refl (if_spares _ V.TooLittleCash None refl none_spares))

deal_spares : (t : buying.Situation) (c : Corp) (kind : Kind) (seller : Corp) (price : ℕ) (s s2 : Seat) → Spares (depot.deal_verdict t (depot.deal c kind seller price s s2))
unfolding depot.deal_verdict
deal_spares t c kind seller price s s2 =
    if_spares _ V.NotOnSale _ refl
    (if_spares _ V.NotYourTurn _ refl
    (if_spares _ V.PriceOutOfBounds _ refl
    (if_spares _ V.TrainLimit _ refl
    (if_spares _ V.TooLittleCash None refl none_spares))))

exchange_spares : (roster : Terms) (t : buying.Situation) (c : Corp) (kind : Kind) → Spares (depot.trade_verdict roster t c kind)
unfolding depot.trade_verdict
exchange_spares roster t c kind = if_spares _ V.NotOnSale _ refl (if_spares _ V.TooLittleCash None refl none_spares)

discard_spares : (t : buying.Situation) (c : Corp) (kind : Kind) → Spares (depot.discard_verdict t c kind)
unfolding depot.discard_verdict
discard_spares t c kind = if_spares _ V.WrongStep _ refl (if_spares _ V.NotOnSale None refl none_spares)

transfer_spares : (roster : Terms) (t : buying.Situation) (c : Corp) (p : Private) (price : ℕ) → Spares (depot.private_verdict roster t c p price)
unfolding depot.private_verdict
transfer_spares roster t c p price =
    if_spares _ V.NotOnSale _ refl
    (if_spares _ V.NotForSale _ refl
    (if_spares _ V.PriceOutOfBounds _ refl
    (if_spares _ V.TooLittleCash None refl none_spares)))

purchase_spares : (roster : Terms) (t : buying.Situation) (act : Act) → Spares (depot.verdict_in roster t act)
purchase_spares roster t (A.BuyTrain c kind source) = train_spares roster t c kind source
purchase_spares roster t (A.BuyTrainFrom c kind seller price s s2) = deal_spares t c kind seller price s s2
purchase_spares roster t (A.Trade c kind) = exchange_spares roster t c kind
purchase_spares roster t (A.Discard c kind) = discard_spares t c kind
purchase_spares roster t (A.TakePrivate c p price) = transfer_spares roster t c p price
purchase_spares roster t _ = some_spares V.WrongStep refl

pub depot_spares : (roster : Terms) (book : Book) (act : Act) → Spares (depot.verdict roster book act)
depot_spares roster book act = purchase_spares roster (buying.situation_of book) act

-- dividends

pub dividend_spares : (revenue : Money) → Spares (pay_verdict revenue)
dividend_spares revenue = unless_spares _ V.WrongStep refl
