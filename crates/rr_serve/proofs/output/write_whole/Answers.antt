use Rattle.std.proofs.Common.{◌+◌, ◌-◌, ◌≤◌, ◌++◌, length, take, drop, ap, ◌∙◌, subst, sym, arith, append_assoc, length-take, length-drop, take-append-drop}
use Rattle.std.specs.Io.KnownBytes.{Appends}
use Rattle.std.proofs.KnownBytes.{Appends-trans, Appends-kept}
use Rattle.rr_serve.proofs.LineLemmas.{take-next, take-none, take-part}
use Rattle.rr_serve.proofs.output.write_whole.Goals as goal

pub loop-written-preserved : goal.loop-written-preserved
loop-written-preserved g c =
    let bytes = c.args.bytes.now in
    let written = c.loop-written.written in
    let count = c.in-Ok.count in
    let old = g.W.Write.contents c.args.writer.now in
    let new = g.W.Write.contents c.write.new.self in
    let noted = c.args.notes.now.bytes in
    let next = take ((written + count) - written) (drop written bytes) in
    let bound : count ≤ length (take (length bytes - written) (drop written bytes)) = c.in-Ok.ensures.bound in (
      omega (arith, bound, length-take (length bytes - written) (drop written bytes), length-drop written bytes),
      subst (Appends old new) (take-part written count bytes)
          (Appends-trans old _ new _ _ c.loop-written.invariant.1 c.in-Ok.ensures.bytes),
      c.note.ensures.0 ∙ ap (λ xs. xs ++ next) c.loop-written.invariant.2 ∙ append_assoc noted (take written bytes) next
          ∙ ap (λ xs. noted ++ xs) (take-next written count bytes),
      c.note.ensures.1 ∙ c.loop-written.invariant.3,
      c.note.ensures.2 ∙ c.loop-written.invariant.4,
    )

pub returns-in_default-clause-writes : goal.returns-in_default-clause-writes
returns-in_default-clause-writes g c =
    let bytes = c.args.bytes.now in
    let written = c.loop-written.written in
    let old = g.W.Write.contents c.args.writer.now in
    let new = g.W.Write.contents c.write.new.self in (
      take written bytes,
      drop written bytes,
      sym (take-append-drop written bytes),
      subst (Appends old new) (take-none written c.in-Ok.count bytes c.if-count-gt0.false)
          (Appends-trans old _ new _ _ c.loop-written.invariant.1 c.in-Ok.ensures.bytes),
      c.loop-written.invariant.2,
      omega (arith, length-drop written bytes, c.loop-written-test.true),
    )

pub returns-in_default-2-clause-writes : goal.returns-in_default-2-clause-writes
returns-in_default-2-clause-writes g c =
    let bytes = c.args.bytes.now in
    let written = c.loop-written.written in (
      take written bytes,
      drop written bytes,
      sym (take-append-drop written bytes),
      Appends-kept _ _ _ _ c.loop-written.invariant.1 c.in_default.ensures.bytes,
      c.loop-written.invariant.2,
      omega (arith, length-drop written bytes, c.loop-written-test.true),
    )
