-- Operating rounds, one after another.
use Rattle.std.specs.Prelude.{Bool, not, ◌&&◌, is_some, List, [], ◌∷◌, if◌then◌else◌}
use Rattle.rr_roster.specs.Terms.{Terms}
use Rattle.rr_roster.specs.Chart.Chart.{Row}
use Rattle.rr_books.specs.declared.entries.Entry.TheVariants as E
use Rattle.rr_books.specs.declared.entries.Marker.TheVariants as M
use Rattle.rr_books.specs.Book.{Book}
use Rattle.rr_desk.specs.Effects.{Effect, adds, in_turn}
use Rattle.rr_desk.specs.Incomes.{pay_incomes}
use Rattle.rr_market.specs.Operations.Progress.{bank_owed, has_more_rounds, is_operating, progress}
use Rattle.rr_market.specs.Operations.Due.{due}

-- an operating round is under way in which no corporation has a turn left
abbrev pub round_is_over : List Row → Book → Bool
round_is_over rows book = is_operating (progress book).stage && not (is_some (due rows book))

-- an operating round begins, and the privates pay
unfoldable pub begins_round : Terms → Effect
begins_round roster = in_turn (adds (E.Step M.Operating) ∷ pay_incomes roster ∷ [])

-- the set is over: the next stock round begins, unless the bank has owed money, and then the game is over
unfoldable pub ends_set : Terms → Effect
ends_set roster book = (if bank_owed roster (progress book) then in_turn [] else adds (E.Step M.Stock)) book

-- behind the last turn of a round: the set's next round, or its end
abbrev pub ends_round : Terms → Effect
ends_round roster book = (if has_more_rounds (progress book) then begins_round roster else ends_set roster) book

-- a round in which no corporation has a turn left gives way to what follows on it
unfoldable pub passes_round : Terms → List Row → Effect
passes_round roster rows book = (if round_is_over rows book then ends_round roster else in_turn []) book

-- Rounds without a turn pass within one command. A set has three rounds at most: so that of two others behind the first
-- and of the stock round.
unfoldable pub passes_rounds : Terms → List Row → Effect
passes_rounds roster rows = in_turn (passes_round roster rows ∷ passes_round roster rows ∷ passes_round roster rows ∷ [])
