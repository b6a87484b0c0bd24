use Rattle.rr_code.proofs.PlayersLemmas.{different-players}
use Rattle.rr_code.proofs.players.Players.as_slice.Goals as goal

pub returns-clause-different : goal.returns-clause-different
returns-clause-different c = different-players _ (rw c.self.view_is at c.self.invariant.1)
