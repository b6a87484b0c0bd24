use Rattle.std.proofs.Common.{◌≡◌, ℕ, Some, length}
use Rattle.std.specs.List.{slice_get}
use Rattle.rr_roster.specs.declared.company.Kind.{Kind}
use Rattle.rr_routes.specs.Net.{limit_of}
use Rattle.rr_referee.specs.Sheets.{limit_of_kind}
use Rattle.rr_search.proofs.kinds.kinds_of.Given as goal

abbrev pub invariant-loop-train : goal.invariant-loop-train
invariant-loop-train l = record {
  complete : length l.kinds.items ≡ l.train;
  each : (train : ℕ) (kind : Kind) → slice_get l.kinds.items train ≡ Some kind → limit_of_kind kind ≡ limit_of l.net train;
}
