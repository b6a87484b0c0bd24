-- A forced purchase, and a sale for it, leave an auction that is over as it is, and where the trains are told by what was sold.
use Rattle.std.specs.Prelude.{ℕ, List, [], Option, None, Some, refl}
use Rattle.rr_roster.specs.declared.company.Corp.{Corp}
use Rattle.rr_roster.specs.Terms.{Terms}
use Rattle.rr_books.specs.Book.{Book}
use Rattle.rr_books.specs.declared.acts.Act.{Act}
use Rattle.rr_books.specs.declared.acts.Act.TheVariants as A
use Rattle.rr_books.specs.declared.entries.Entry.TheVariants as E
use Rattle.rr_books.specs.declared.entries.Marker.TheVariants as M
use Rattle.rr_books.specs.declared.parties.Party.TheVariants as P
use Rattle.rr_books.specs.declared.parties.Seat.{Seat}
use Rattle.rr_roster.specs.Chart.Chart.{Row}
use Rattle.rr_desk.specs.Effects.{adds}
use Rattle.rr_shares.specs.Effects.{sale_shares}
use Rattle.rr_stock.specs.Effects.{pays_seller, proceeds}
use Rattle.rr_stock.specs.Situation.{Situation, situation_of}
use Rattle.rr_trains.specs.Sales.{source_place}
use Rattle.rr_trains.specs.Depot.Effects.{says}
use Rattle.rr_trains.specs.Depot.Situation as depot
use Rattle.rr_rules.specs.declared.forced.needs.Need.{Need}
use Rattle.rr_rules.specs.Forced.Effects.{entries_of, forces, forces_if, gets_train, helps, raises}
use Rattle.rr_rules.specs.Forced.Needs.{cheapest_need}
use Rattle.rr_laws.proofs.StockLeaves.{Leaves, none_leaves, sale_leaves, seller_leaves, three_leave}
use Rattle.rr_laws.proofs.TrainSales.{Trades, none_trades, still_trades, three_trade}
use Rattle.rr_laws.proofs.TurnLeaves.{GoesOn, paid_for, still_goes, trades_on}

help_leaves : (leads : Option Seat) (c : Corp) (m : ℕ) → Leaves (helps leads c m)
help_leaves None c m = none_leaves
help_leaves (Some s) c m = λ book. refl

got_trades : (need : Need) → Trades (gets_train need)
unfolding gets_train
got_trades need = paid_for need.train.kind (source_place need.train.source) need.corp P.Bank need.price need.is_first

force_trades : (need : Need) → Trades (forces need)
unfolding forces
force_trades need =
    three_trade (adds (E.Step (M.Act (A.Force need.corp)))) (helps need.president need.corp need.lack) (gets_train need)
    (still_trades (adds (E.Step (M.Act (A.Force need.corp)))) (λ book. refl))
    (still_trades (helps need.president need.corp need.lack) (help_leaves need.president need.corp need.lack)) (got_trades need)

pub forced_trades : (need : Option Need) → Trades (forces_if need)
forced_trades None = none_trades
forced_trades (Some need) = force_trades need

pub raise_leaves : (rows : List Row) (t : Situation) (s : Seat) (c : Corp) (n : ℕ) → Leaves (raises rows t s c n)
unfolding raises
raise_leaves rows t s c n =
    three_leave (adds (E.Step (M.Act (A.Raise s c n)))) (sale_shares c s n) (pays_seller rows s c n (proceeds t c n)) (λ book. refl) (sale_leaves c s n) (seller_leaves rows s c n (proceeds t c n))

-- a forced purchase, a sale for it, or a bankruptcy
pub need_goes : (roster : Terms) (rows : List Row) (book : Book) (act : Act) → GoesOn book (entries_of roster rows book act)
need_goes roster rows book (A.Force c) = trades_on book (forces_if (cheapest_need roster (depot.situation_of book) c)) (forced_trades (cheapest_need roster (depot.situation_of book) c))
need_goes roster rows book (A.Raise s c n) = still_goes book (raises rows (situation_of rows book) s c n book) (raise_leaves rows (situation_of rows book) s c n book)
need_goes roster rows book (A.Bankrupt s) = still_goes book (says (A.Bankrupt s) book) refl
need_goes roster rows book _ = still_goes book [] refl
