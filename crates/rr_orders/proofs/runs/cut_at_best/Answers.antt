use Rattle.std.proofs.Common.{rules, ◌≡◌, ◌≤◌, ◌+◌, length, true, false, ap, refl, ◌∙◌, arith}
use Rattle.std.specs.Prelude.{codes, bytes_eq}
use Rattle.std.proofs.lemmas.Grind.{common_steps}
use Rattle.std.proofs.lemmas.Slice.Eq.{bytes_eq-Decides}
use Rattle.rr_orders.specs.Scan.Words.{words_left}
use Rattle.rr_orders.specs.Texts.{cut_at_best}
use Rattle.rr_orders.proofs.CutLemmas.{CutSoFar-fits, CutSoFar-more, cut-here, cut-nowhere}
use Rattle.rr_orders.proofs.runs.cut_at_best.Goals as goal

pub front-requires : goal.front-requires
front-requires c = CutSoFar-fits _ _ _ c.loop-word.invariant

pub loop-word-preserved : goal.loop-word-preserved
loop-word-preserved c =
    let same = c.eq.ensures in
    let literal = c.as_slice.ensures in
    let tested = c.if-eq.false in
    let other : bytes_eq c.in-Some.word.now (codes "best") ≡ false = grind (arith, common_steps) in
    CutSoFar-more _ _ _ _ _ c.in-Some.word.now c.loop-word.invariant c.in-Some.ensures other refl

pub overflow_add-before-in-Some : goal.overflow_add-before-in-Some
overflow_add-before-in-Some c =
    let same = c.eq.ensures in
    let literal = c.as_slice.ensures in
    let tested = c.if-eq.false in
    let other : bytes_eq c.in-Some.word.now (codes "best") ≡ false = grind (arith, common_steps) in
    let fits : c.loop-word.before + (length c.in-Some.word.now + 1) ≤ length c.in_ok-text.text.now + 1 =
    CutSoFar-fits _ _ _ (CutSoFar-more _ _ _ _ _ c.in-Some.word.now c.loop-word.invariant c.in-Some.ensures other refl) in
    search rules

pub returns-then-eq : goal.returns-then-eq
returns-then-eq c =
    let same = c.eq.ensures in
    let literal = c.as_slice.ensures in
    let tested = c.if-eq.true in
    let found : bytes_eq c.in-Some.word.now (codes "best") ≡ true = grind (arith, common_steps) in
    let word : c.in-Some.word.now ≡ codes "best" = (bytes_eq-Decides c.in-Some.word.now (codes "best")).0 found in
    ap (λ left. cut_at_best (words_left left)) c.in_ok-text.was
    ∙ cut-here _ _ _ _ _ c.front.result c.rest.result c.loop-word.invariant c.in-Some.ensures word c.front.ensures c.rest.ensures

pub returns : goal.returns
returns c =
    ap (λ left. cut_at_best (words_left left)) c.in_ok-text.was
    ∙ cut-nowhere _ _ _ c.loop-word.invariant c.in_default.ensures.0
