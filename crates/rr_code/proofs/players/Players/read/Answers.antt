use Rattle.rr_code.proofs.PlayersLemmas.{IsReadSoFar-more}
use Rattle.rr_code.proofs.players.Players.read.Goals as goal

pub loop-word-preserved : goal.loop-word-preserved
loop-word-preserved c =
    IsReadSoFar-more _ _ _ _ _ _ _ c.loop-word.invariant c.in-Some.ensures c.in_ok-name.ensures.spelled.1 c.in_ok-name.ensures.spelled.0 c.if-count-eq-MOST_PLAYERS.false
