use Rattle.std.proofs.Common.{◌≡◌, length, map}
use Rattle.rr_vectors.specs.Runs.{AreLaid}
use Rattle.rr_vectors.proofs.kept.lay_all.Given as goal

abbrev pub invariant-loop-line : goal.invariant-loop-line
invariant-loop-line l =
    (length l.content ≡ length l.initial.content) × AreLaid (map (λ line. line.now) l.yielded) l.initial.content l.content
