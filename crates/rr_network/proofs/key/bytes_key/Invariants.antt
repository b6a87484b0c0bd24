use Rattle.std.proofs.Common.{◌≡◌, take}
use Rattle.std.specs.List.{fold}
use Rattle.rr_network.specs.Keys.{joined}
use Rattle.rr_network.proofs.key.bytes_key.Given as goal

abbrev pub invariant-loop-byte : goal.invariant-loop-byte
invariant-loop-byte l = l.key ≡ fold joined 0 (take l.byte-index l.bytes)
