use Rattle.std.proofs.Common.{◌≡◌, List, ℕ, [], Some, None, ap, sym, ◌∙◌, get_or, arith}
use denote.Ref.{Bor}
use Rattle.std.proofs.lemmas.Grind.{common_steps}
use Rattle.rr_tiles.proofs.EachLemmas.{added-none, added-next, added-stop}
use Rattle.rr_tiles.specs.Tile.{blank}
use Rattle.rr_tiles.specs.Reading.{add_word}
use Rattle.rr_tiles.proofs.tile.Tile.read_words.Goals as goal

pub loop-word-init : goal.loop-word-init
loop-word-init c = added-none add_word blank ∙ ap (λ x. Some x) (sym c.blank-tile.ensures)

pub returns-then-not-branch : goal.returns-then-not-branch
returns-then-not-branch c =
    let blank_word : Bor (List ℕ) = record { ref_ptr = (0, 0); now = [] } in
    let none : None ≡ add_word c.loop-word.tile (get_or c.args.words.now c.loop-word.word-index blank_word).now = grind (arith, common_steps) in
    added-stop (λ word. word.now) add_word blank c.args.words.now c.loop-word.word-index blank_word c.loop-word.tile c.loop-word-test.true c.loop-word.invariant none

pub loop-word-preserved : goal.loop-word-preserved
loop-word-preserved c =
    let blank_word : Bor (List ℕ) = record { ref_ptr = (0, 0); now = [] } in
    let more : Some c.take.new.self ≡ add_word c.loop-word.tile (get_or c.args.words.now c.loop-word.word-index blank_word).now = grind (arith, common_steps) in
    added-next (λ word. word.now) add_word blank c.args.words.now c.loop-word.word-index blank_word c.loop-word.tile c.take.new.self c.loop-word-test.true c.loop-word.invariant more
