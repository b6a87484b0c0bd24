use Rattle.std.proofs.Common.{◌≡◌, ◌++◌, ◌∷◌, [], ap, ◌∙◌, append_assoc}
use Rattle.std.proofs.lemmas.Result.{err_from_is_err_and}
use Rattle.rr_routes.proofs.SheetsLemmas.CertificateLemmas.{too_long, no_tree, not_one, grown_tree, stop_weaker, forest-next, forest_of_all}
use Rattle.rr_routes.proofs.sheets.certificate.grow.Goals as goal

pub returns-then-words-gt-MOST_NODES-clause-stopped : goal.returns-then-words-gt-MOST_NODES-clause-stopped
returns-then-words-gt-MOST_NODES-clause-stopped c tree grown = too_long c.args.trains c.args.words.now tree c.if-words-gt-MOST_NODES.true grown

pub returns-in_err-grow-clause-stopped : goal.returns-in_err-grow-clause-stopped
returns-in_err-grow-clause-stopped c =
    let p = err_from_is_err_and c.from_residual.result c.from_residual.ensures.1 in
    let cut : c.loop-word.left.now ≡ c.in-Some.before.now ++ c.in-Some.word.now ∷ [] = c.in-Some.ensures.cases.0 in
    let so_far = c.loop-word.invariant in
    let split : c.args.words.now ≡ c.in-Some.before.now ++ (c.in-Some.word.now ∷ so_far.0) =
    so_far.1 ∙ ap (λ front. front ++ so_far.0) cut ∙ append_assoc c.in-Some.before.now (c.in-Some.word.now ∷ []) so_far.0 in
    rw (p.1, p.2) (stop_weaker c.in_err-grow.field-0.0
    (λ none tree grown. no_tree c.args.trains c.args.words.now c.in-Some.before.now so_far.0 c.in-Some.word.now tree split (λ other spelled. none so_far.0 other so_far.2 spelled) grown)
    (c.in_err-grow.ensures {u = tt}).stopped)

pub loop-word-preserved : goal.loop-word-preserved
loop-word-preserved c =
    forest-next c.args.trains c.args.words.now c.loop-word.left.now c.in-Some.before.now c.in-Some.word.now c.loop-word.forest c.grow.new.self
    c.in-Some.ensures.cases.0 c.loop-word.invariant (c.in_ok-grow.ensures {u = tt}).grown

pub returns-in-Some-single-clause-tree : goal.returns-in-Some-single-clause-tree
returns-in-Some-single-clause-tree c =
    grown_tree c.args.trains c.args.words.now c.loop-word.forest c.in-Some-single.tree c.if-words-gt-MOST_NODES.false
    (forest_of_all c.args.trains c.args.words.now c.loop-word.left.now c.loop-word.forest c.in_default.ensures.cases c.loop-word.invariant)
    c.in-Some-single.ensures

pub returns-in-None-clause-stopped : goal.returns-in-None-clause-stopped
returns-in-None-clause-stopped c tree grown =
    not_one c.args.trains c.args.words.now c.loop-word.forest tree
    (forest_of_all c.args.trains c.args.words.now c.loop-word.left.now c.loop-word.forest c.in_default.ensures.cases c.loop-word.invariant)
    c.in-None.ensures grown
