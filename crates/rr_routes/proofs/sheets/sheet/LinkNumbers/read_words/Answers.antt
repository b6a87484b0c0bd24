use Rattle.std.proofs.Common.{◌≡◌, List, ℕ, [], Some, None, ap, sym, ◌∙◌, get_or, arith}
use denote.Ref.{Bor}
use Rattle.std.proofs.lemmas.Grind.{common_steps}
use Rattle.rr_words.specs.Numeral.{number_of}
use Rattle.rr_routes.proofs.SheetsLemmas.EachLemmas.{each-none, each-next, each-stop}
use Rattle.rr_routes.proofs.sheets.sheet.LinkNumbers.read_words.Goals as goal

pub loop-word-init : goal.loop-word-init
loop-word-init c = each-none number_of ∙ ap (λ x. Some x) (sym c.new-links.ensures)

pub returns-in_default : goal.returns-in_default
returns-in_default c =
    let blank_word : Bor (List ℕ) = record { ref_ptr = (0, 0); now = [] } in
    let none : number_of (get_or c.args.words.now c.loop-word.word-index blank_word).now ≡ None = grind (arith, common_steps) in
    sym (each-stop (λ word. word.now) number_of c.args.words.now c.loop-word.word-index blank_word c.loop-word-test.true none)

pub loop-word-preserved : goal.loop-word-preserved
loop-word-preserved c =
    let blank_word : Bor (List ℕ) = record { ref_ptr = (0, 0); now = [] } in
    let one : number_of (get_or c.args.words.now c.loop-word.word-index blank_word).now ≡ Some c.in-Some.link = grind (arith, common_steps) in
    each-next (λ word. word.now) number_of c.args.words.now c.loop-word.word-index blank_word c.loop-word.links c.in-Some.link c.loop-word-test.true c.loop-word.invariant one
    ∙ ap (λ x. Some x) (sym (c.in_ok-push.ensures {u = tt}).ok)
