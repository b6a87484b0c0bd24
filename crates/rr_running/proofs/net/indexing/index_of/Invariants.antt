use Rattle.std.proofs.Common.{take}
use Rattle.rr_running.specs.Net.Indexing.{IsIndexOf}
use Rattle.rr_running.proofs.net.indexing.index_of.Given as goal

abbrev pub invariant-loop-place : goal.invariant-loop-place
invariant-loop-place l = IsIndexOf (take l.place l.keys) l.index
