-- What a corporation that must own a train needs for it.
use Rattle.std.specs.Prelude.{◌≡◌, ◌⊎◌, ℕ, ℤ, pos, negsuc, ◌-◌, ◌+ℤ◌, Option, None, Some, option_map}
use Rattle.rr_roster.specs.declared.company.Corp.{Corp}
use Rattle.rr_roster.specs.Terms.{Terms, price_of}
use Rattle.rr_books.specs.declared.parties.Seat.{Seat}
use Rattle.rr_books.specs.declared.parties.Party.TheVariants as P
use Rattle.rr_books.specs.Book.{Book}
use Rattle.rr_books.specs.Shares.{president}
use Rattle.rr_kit.specs.declared.kit.Kit.{Kit}
use Rattle.rr_market.specs.Operations.Due.{due}
use Rattle.rr_trains.specs.declared.prices.TrainOnSale.{TrainOnSale}
use Rattle.rr_trains.specs.Sales.{cheapest}
use Rattle.rr_shares.specs.Succession.{at_table}
use Rattle.rr_trains.specs.Depot.Effects.{is_first_sold}
use Rattle.rr_trains.specs.Depot.Situation.{Situation, situation_of}
use Rattle.rr_operate.specs.Rows.{OwesTrain}
use Rattle.rr_rules.specs.declared.forced.needs.Need.{Need}

-- what a price is above the money that is there, if it is; where money is owed, nothing is there
abbrev pub missing : ℕ → ℤ → ℕ
missing price (pos money) = price - money
missing price (negsuc debt) = price

-- the corporation's president, one of the table's seats
abbrev pub leader : Situation → Corp → Option Seat
leader t c = at_table t.players (president t.holders c)

-- what a corporation and its president have together
abbrev pub with_leader : Situation → ℤ → Option Seat → ℤ
with_leader t cash None = cash
with_leader t cash (Some s) = cash +ℤ t.money (P.Seat s)

abbrev pub joint_cash : Situation → Corp → ℤ
joint_cash t c = with_leader t (t.money (P.Corp c)) (leader t c)

-- what a corporation needs to buy this train
abbrev pub need_for : Terms → Situation → Corp → TrainOnSale → Need
need_for roster t c train = record {
  corp = c;
  president = leader t c;
  train = train;
  is_first = is_first_sold t.trains train.kind train.source;
  price = price_of roster train.kind;
  lack = missing (price_of roster train.kind) (t.money (P.Corp c));
  shortfall = missing (price_of roster train.kind) (joint_cash t c);
}

-- the same for the cheapest train on sale
abbrev pub cheapest_need : Terms → Situation → Corp → Option Need
cheapest_need roster t c = option_map (need_for roster t c) (cheapest t.trains roster)

-- what a corporation needs, which is nothing where it needn't own a train
abbrev pub IsNeedOf : Kit → Book → Option Corp → Option Need → Type 0
IsNeedOf kit book None need = need ≡ None
IsNeedOf kit book (Some c) need = ((OwesTrain kit book c → ⊥) × (need ≡ None)) ⊎ (OwesTrain kit book c × (need ≡ cheapest_need kit.roster (situation_of book) c))

-- what the corporation due needs
abbrev pub IsNeed : Kit → Book → Option Need → Type 0
IsNeed kit book need = IsNeedOf kit book (due kit.chart book) need
