use Rattle.std.proofs.Common.{◌≡◌, ◌∷◌, ◌++◌, length, take}
use Rattle.std.specs.List.{flat_map}
use Rattle.rr_code.specs.Bytes.{spelled_name}
use Rattle.rr_code.proofs.bytes.PlayersSpell.write.Given as goal

abbrev pub invariant-loop-name : goal.invariant-loop-name
invariant-loop-name l = l.out.items ≡ l.fn.out.items ++ (length l.names ∷ flat_map spelled_name (take l.name-index l.names))
