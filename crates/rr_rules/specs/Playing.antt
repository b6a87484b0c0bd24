-- The state of a table's game behind a command that isn't refused.
use Rattle.std.specs.Prelude.{Bool, true, false, [], ◌∷◌, ◌++◌}
use Rattle.rr_kit.specs.declared.kit.Kit.{Kit}
use Rattle.rr_books.specs.declared.acts.Act.{Act}
use Rattle.rr_books.specs.declared.parties.Money.{Money}
use Rattle.rr_books.specs.Book.{Book}
use Rattle.rr_desk.specs.Effects.{in_turn}
use Rattle.rr_auction.specs.Effects as auction
use Rattle.rr_stock.specs.Effects as stock
use Rattle.rr_operate.specs.Sets.Following.{goes_on_in_stock_round}
use Rattle.rr_market.specs.declared.operations.turn.Stage.{Stage}
use Rattle.rr_market.specs.declared.operations.turn.Stage.TheVariants as G
use Rattle.rr_operate.specs.Effects as operate
use Rattle.rr_rules.specs.Forced.Effects as forced
use Rattle.rr_rules.specs.Forced.Rules.{is_forced}
use Rattle.rr_rules.specs.Judging.{stage}
use Rattle.rr_rules.specs.State.{GameState}

-- a command of a stock round adds its own entries, and what follows on them by itself
abbrev pub stock_entries : Kit → Book → Act → Book
stock_entries kit book act = in_turn ((λ so_far. stock.entries_of kit.chart so_far act) ∷ goes_on_in_stock_round kit ∷ []) book

-- what a command of an operating round adds, one of a corporation that must own a train and can't pay it or any other
abbrev pub operating_entries : Bool → Kit → GameState → Act → Book
operating_entries true kit state act = forced.entries_of kit.roster kit.chart state.book act
operating_entries false kit state act = operate.entries_of kit state.revenue state.book act

-- what a command adds to the book, by the rules of a stage
abbrev pub entries_in : Stage → Kit → GameState → Act → Book
entries_in G.Auction kit state act = auction.entries_of kit.roster kit.chart state.book act
entries_in G.Stock kit state act = stock_entries kit state.book act
entries_in G.Operating kit state act = operating_entries (is_forced act) kit state act

-- what the trains of the corporation that is due have earned behind a command, by the rules of a stage
abbrev pub revenue_in : Stage → Kit → GameState → Act → Money
revenue_in G.Operating kit state act = operate.revenue_after kit state.book state.revenue act
revenue_in _ kit state act = state.revenue

-- the state behind a command, by the rules of a stage
abbrev pub state_in : Stage → Kit → GameState → Act → GameState
state_in stage kit state act = record { book = state.book ++ entries_in stage kit state act; revenue = revenue_in stage kit state act }

-- what a command adds to the book, by the rules in force
abbrev pub entries_after : Kit → GameState → Act → Book
entries_after kit state act = entries_in (stage state.book) kit state act

-- the state behind a command, by the rules in force
abbrev pub state_after : Kit → GameState → Act → GameState
state_after kit state act = state_in (stage state.book) kit state act
