use Rattle.std.proofs.Common.{arith}
use Rattle.rr_turns.specs.Counts.{is_held}
use Rattle.rr_turns.proofs.CountLemmas.{length-none}
use Rattle.rr_turns.proofs.set.place_of.Goals as goal

pub loop-index-init : goal.loop-index-init
loop-index-init c = omega (arith, length-none (is_held c.args.words.now))
