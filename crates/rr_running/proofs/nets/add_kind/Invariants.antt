use Rattle.std.proofs.Common.{◌≡◌, ◌+◌, ◌++◌, vec_len}
use Rattle.std.specs.Prelude.{replicate}
use Rattle.rr_running.proofs.nets.add_kind.Given as goal

abbrev pub invariant-loop-train : goal.invariant-loop-train
invariant-loop-train l = record {
  items : l.held.items ≡ l.initial.held.items ++ replicate l.train l.kind;
  count : vec_len l.held ≡ vec_len l.initial.held + l.train;
}
