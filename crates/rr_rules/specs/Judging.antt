-- The judgement on a command, by the rules that are in force.
use Rattle.std.specs.Prelude.{Bool, true, false, not, ◌&&◌, ◌||◌, is_some, Option, None, Some, if◌then◌else◌}
use Rattle.rr_kit.specs.Board.Plan.{hex_named}
use Rattle.rr_tiles.specs.Supply.{supply_at}
use Rattle.rr_kit.specs.declared.kit.Kit.{Kit}
use Rattle.rr_books.specs.declared.acts.Act.{Act}
use Rattle.rr_books.specs.declared.acts.Act.TheVariants as A
use Rattle.rr_books.specs.Book.{Book}
use Rattle.rr_auction.specs.Effects.{is_over}
use Rattle.rr_auction.specs.Rules as auction
use Rattle.rr_rounds.specs.Round as rounds
use Rattle.rr_stock.specs.Rules as stock
use Rattle.rr_market.specs.declared.operations.turn.Stage.{Stage}
use Rattle.rr_market.specs.declared.operations.turn.Stage.TheVariants as G
use Rattle.rr_market.specs.Operations.Progress.{bank_owed, has_more_rounds, progress}
use Rattle.rr_operate.specs.Sets.Rounds.{round_is_over}
use Rattle.rr_books.specs.declared.refusal.Refusal.{Refusal}
use Rattle.rr_operate.specs.Rows.{IsRowVerdict, first_verdict}
use Rattle.rr_rules.specs.Forced.Rules.{IsRowVerdict as IsForcedVerdict, first_verdict as first_forced, is_forced}
use Rattle.rr_turns.specs.Judgement.{Judgement, judgement_behind, settled}
use Rattle.rr_books.specs.declared.refusal.Refusal.TheVariants as F
use Rattle.rr_rules.specs.State.{GameState}

-- whose rules are in force: those of the auction until it is over; then those of a stock round while one is under way,
-- and else those of operating rounds
abbrev pub stage_once : Bool → Bool → Stage
stage_once false under_way = G.Auction
stage_once true true = G.Stock
stage_once true false = G.Operating

unfoldable pub stage : Book → Stage
stage book = stage_once (is_over (auction.due book)) (rounds.progress book).under_way

-- a set of operating rounds has ended behind an entry after which the bank owed money
abbrev pub bank_is_broken : Kit → Book → Bool
bank_is_broken kit book = round_is_over kit.chart book && bank_owed kit.roster (progress book) && not (has_more_rounds (progress book))

-- the game is over: a seat is bankrupt, or the bank is broken
abbrev pub game_is_over : Kit → Book → Bool
game_is_over kit book = (progress book).bankrupt || bank_is_broken kit book

-- a hex that the board lacks, or a tile that the manifest lacks
abbrev pub refused_unless : Bool → Option Refusal
refused_unless known = if known then None else Some F.NoSuchName

abbrev pub name_verdict : Kit → Act → Option Refusal
name_verdict kit (A.Lay c hex tile turn) = refused_unless (is_some (hex_named kit.board.hexes hex) && is_some (supply_at kit.tiles tile))
name_verdict kit (A.Station c hex centre) = refused_unless (is_some (hex_named kit.board.hexes hex))
name_verdict kit _ = None

-- the judgement on a command of a corporation's turn
abbrev pub turn_judgement : Kit → GameState → Act → Judgement Refusal
turn_judgement kit state act = record { first = first_verdict kit state.book state.revenue act; Behind = IsRowVerdict kit state.book act }

-- the judgement on a command of a corporation that must own a train and can't pay it
abbrev pub force_judgement : Kit → GameState → Act → Judgement Refusal
force_judgement kit state act = record { first = first_forced kit state.book act; Behind = IsForcedVerdict kit state.book act }

-- the judgement in an operating round, on such a command or any other
abbrev pub operating_judgement : Bool → Kit → GameState → Act → Judgement Refusal
operating_judgement true kit state act = force_judgement kit state act
operating_judgement false kit state act = turn_judgement kit state act

-- the judgement by the rules of a stage
abbrev pub judgement_in : Stage → Kit → GameState → Act → Judgement Refusal
judgement_in G.Auction kit state act = settled (auction.verdict kit.roster kit.chart state.book act)
judgement_in G.Stock kit state act = settled (stock.verdict kit.chart state.book act)
judgement_in G.Operating kit state act = operating_judgement (is_forced act) kit state act

-- a name that the kit lacks is told first, and then what the rules in force refuse
unfoldable pub judgement : Kit → GameState → Act → Judgement Refusal
judgement kit state act = judgement_behind (name_verdict kit act) (judgement_in (stage state.book) kit state act)
