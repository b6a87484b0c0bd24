use Rattle.std.proofs.Common.{◌≡◌, ◌∷◌, ◌++◌, take}
use Rattle.std.specs.Prelude.{codes}
use Rattle.rr_words.specs.Line.{line_of}
use Rattle.rr_code.proofs.command.write_open.Given as goal

abbrev pub invariant-loop-player : goal.invariant-loop-player
invariant-loop-player l = l.out.items ≡ l.fn.out.items ++ line_of (codes "open" ∷ take l.player-index l.player-items)
