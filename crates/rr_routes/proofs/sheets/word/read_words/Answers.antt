use Rattle.std.proofs.Common.{◌≡◌, List, ℕ, [], Some, None, ap, sym, ◌∙◌, get_or, arith}
use denote.Ref.{Bor}
use Rattle.std.proofs.lemmas.Grind.{common_steps}
use Rattle.rr_routes.specs.Sheets.Reading.{cert_word_of}
use Rattle.rr_routes.proofs.SheetsLemmas.EachLemmas.{each-none, each-next, each-stop}
use Rattle.rr_routes.proofs.sheets.word.read_words.Goals as goal

pub loop-word-init : goal.loop-word-init
loop-word-init c = each-none cert_word_of ∙ ap (λ x. Some x) (sym c.new-read.ensures.items)

pub returns-in_default : goal.returns-in_default
returns-in_default c =
    let blank_word : Bor (List ℕ) = record { ref_ptr = (0, 0); now = [] } in
    let none : cert_word_of (get_or c.args.words.now c.loop-word.word-index blank_word).now ≡ None = grind (arith, common_steps) in
    sym (each-stop (λ word. word.now) cert_word_of c.args.words.now c.loop-word.word-index blank_word c.loop-word-test.true none)

pub loop-word-preserved : goal.loop-word-preserved
loop-word-preserved c =
    let blank_word : Bor (List ℕ) = record { ref_ptr = (0, 0); now = [] } in
    let one : cert_word_of (get_or c.args.words.now c.loop-word.word-index blank_word).now ≡ Some c.in-Some.word = grind (arith, common_steps) in
    each-next (λ word. word.now) cert_word_of c.args.words.now c.loop-word.word-index blank_word c.loop-word.read.items c.in-Some.word c.loop-word-test.true c.loop-word.invariant one
    ∙ ap (λ x. Some x) (sym (c.in_ok-push.ensures {u = tt}).items)
