use Rattle.std.proofs.Common.{◌≡◌, None, take}
use Rattle.std.specs.List.{fold}
use Rattle.rr_network.specs.Indexes.{later_lay}
use Rattle.rr_network.proofs.laid.last_among.Given as goal

abbrev pub invariant-loop-place : goal.invariant-loop-place
invariant-loop-place l = l.last ≡ fold (later_lay l.lays l.hex) None (take l.place-index l.places)
