use Rattle.std.proofs.Common.{◌≡◌, None, take}
use Rattle.std.specs.List.{fold}
use Rattle.rr_network.specs.Indexes.{first_kind}
use Rattle.rr_network.proofs.step.kind_among.Given as goal

abbrev pub invariant-loop-place : goal.invariant-loop-place
invariant-loop-place l = l.found ≡ fold (first_kind l.stops l.at) None (take l.place-index l.places)
