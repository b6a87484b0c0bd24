use Rattle.std.proofs.Common.{◌≡◌, ◌-◌, map, take}
use Rattle.rr_referee.proofs.word.places_of.Given as goal

abbrev pub invariant-loop-number : goal.invariant-loop-number
invariant-loop-number l = l.places.items ≡ map (λ number. number - 1) (take l.number-index l.numbers)
