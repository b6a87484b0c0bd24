use Rattle.std.proofs.Common.{◌≡◌, ◌≤◌, ◌-◌, ◌++◌, length, take}
use Rattle.std.specs.Io.KnownBytes.{Appends}
use Rattle.rr_serve.proofs.output.write_whole.Given as goal

abbrev pub invariant-loop-written : goal.invariant-loop-written
invariant-loop-written g l =
    (l.written ≤ length l.bytes) × Appends (g.W.Write.contents l.initial.writer) (g.W.Write.contents l.writer) (take l.written l.bytes)
    × (l.notes.bytes ≡ l.initial.notes.bytes ++ take l.written l.bytes) × (l.notes.flushed ≡ l.initial.notes.flushed) × (l.notes.flushes ≡ l.initial.notes.flushes)

abbrev pub decreases-loop-written : goal.decreases-loop-written
decreases-loop-written g l = length l.bytes - l.written
