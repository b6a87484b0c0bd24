use Rattle.std.proofs.Common.{refl, subst, sym, ◌∙◌, ◌∷◌, []}
use Rattle.std.proofs.lemmas.List.{map-append}
use Rattle.std.proofs.lemmas.Iterator.Consumers.{YieldsList-end}
use Rattle.std.proofs.lemmas.Iterator.Splits.{YieldsList-from_lines}
use Rattle.rr_vectors.specs.Runs.{IsLaid, AreLaid, nothing, behind}
use Rattle.rr_vectors.proofs.kept.lay_all.Goals as goal

pub loop-line-init : goal.loop-line-init
loop-line-init c = (refl, nothing)

pub loop-line-preserved : goal.loop-line-preserved
loop-line-preserved c =
    let laid = subst (λ line. IsLaid line c.loop-line.content c.lay.new.content) c.as_bytes.ensures.value c.in_ok-lay.ensures.laid in (
      c.lay.ensures.length ∙ c.loop-line.invariant.0,
      subst (λ all. AreLaid all c.args.content.now c.lay.new.content) (sym (map-append (λ line. line.now) c.loop-line.yielded (c.in-Some.line ∷ []))) (behind c.loop-line.invariant.1 laid),
    )

pub returns-clause-laid : goal.returns-clause-laid
returns-clause-laid c =
    let end = YieldsList-end (YieldsList-from_lines c.args.runs.now (cc)) c.loop-line.yielded _ c.loop-line.yielded_by _ _ c.in-None.is c.next.ensures.steps in
    subst (λ all. AreLaid all c.args.content.now c.loop-line.content) end.0 c.loop-line.invariant.1
