use Rattle.std.proofs.Common.{[], ◌++◌, List, ℕ, ap}
use Rattle.rr_game.specs.Parts.{game_form}
use Rattle.rr_game.proofs.PartsLemmas.{parts_make_the_game}
use Rattle.rr_game.proofs.laws.games_have_their_parts.Goals as goal

pub returns-clause-made : goal.returns-clause-made
returns-clause-made c = parts_make_the_game

pub returns-clause-spelled : goal.returns-clause-spelled
returns-clause-spelled c = λ parts others fits fit same. (game_form.one_way parts others [] [] fits fit (ap (λ (z : List ℕ). z ++ []) same)).0
