-- What follows by itself on a command, once the auction is over.
use Rattle.std.specs.Prelude.{[], ◌∷◌, if◌then◌else◌}
use Rattle.rr_kit.specs.declared.kit.Kit.{Kit}
use Rattle.rr_desk.specs.Effects.{Effect, in_turn}
use Rattle.rr_desk.specs.Incomes.{pay_incomes}
use Rattle.rr_rounds.specs.Round as stock
use Rattle.rr_operate.specs.Sets.Rounds.{passes_rounds}
use Rattle.rr_operate.specs.Sets.Tokens.{places_first_token}

-- rounds without a turn pass, and a corporation whose first turn begins gets its token
unfoldable pub goes_on_in_operating_round : Kit → Effect
goes_on_in_operating_round kit = in_turn (passes_rounds kit.roster kit.chart ∷ places_first_token kit.chart kit.board.homes ∷ [])

-- the first round of a set, which the end of a stock round begins: the privates pay, and so on
unfoldable pub begins_set : Kit → Effect
begins_set kit = in_turn (pay_incomes kit.roster ∷ goes_on_in_operating_round kit ∷ [])

-- on a command of a stock round nothing follows until the round is over
unfoldable pub goes_on_in_stock_round : Kit → Effect
goes_on_in_stock_round kit book = (if (stock.progress book).under_way then in_turn [] else begins_set kit) book
