use Rattle.rr_orders.proofs.ScanLemmas.WordsLemmas.{written-more, Continues-added}
use Rattle.rr_code.proofs.command.write_open.Goals as goal

pub loop-player-preserved : goal.loop-player-preserved
loop-player-preserved c =
    written-more _ _ _ _ _ _ _ _ c.loop-player-test.true c.player-item.is c.as_bytes.ensures.value c.loop-player.invariant c.in_ok-write_word.ensures.ok

pub returns-in_err-write_word-clause-kept : goal.returns-in_err-write_word-clause-kept
returns-in_err-write_word-clause-kept c =
    Continues-added _ _ _ _ c.loop-player.invariant c.in_err-write_word.ensures.kept
