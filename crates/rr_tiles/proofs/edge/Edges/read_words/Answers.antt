use Rattle.std.proofs.Common.{◌≡◌, List, ℕ, [], Some, None, ap, sym, ◌∙◌, get_or, arith}
use denote.Ref.{Bor}
use Rattle.std.proofs.lemmas.Grind.{common_steps}
use Rattle.rr_tiles.proofs.EachLemmas.{added-none, added-next, added-stop}
use Rattle.rr_tiles.specs.Edge.{add_edge}
use Rattle.rr_tiles.proofs.edge.Edges.read_words.Goals as goal

pub loop-word-init : goal.loop-word-init
loop-word-init c = added-none add_edge [] ∙ ap (λ x. Some x) (sym c.none-edges.ensures)

pub returns-then-not-branch : goal.returns-then-not-branch
returns-then-not-branch c =
    let blank_word : Bor (List ℕ) = record { ref_ptr = (0, 0); now = [] } in
    let none : None ≡ add_edge c.loop-word.edges (get_or c.args.words.now c.loop-word.word-index blank_word).now = grind (arith, common_steps) in
    added-stop (λ word. word.now) add_edge [] c.args.words.now c.loop-word.word-index blank_word c.loop-word.edges c.loop-word-test.true c.loop-word.invariant none

pub loop-word-preserved : goal.loop-word-preserved
loop-word-preserved c =
    let blank_word : Bor (List ℕ) = record { ref_ptr = (0, 0); now = [] } in
    let more : Some c.take.new.self ≡ add_edge c.loop-word.edges (get_or c.args.words.now c.loop-word.word-index blank_word).now = grind (arith, common_steps) in
    added-next (λ word. word.now) add_edge [] c.args.words.now c.loop-word.word-index blank_word c.loop-word.edges c.take.new.self c.loop-word-test.true c.loop-word.invariant more
