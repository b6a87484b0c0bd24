use Rattle.std.proofs.Common.{List, ℕ, [], Some, ap, sym, ◌∙◌}
use denote.Ref.{Bor}
use Rattle.rr_routes.specs.Sheets.Reading.{train_of}
use Rattle.rr_routes.proofs.SheetsLemmas.EachLemmas.{each-none, each-next, each-stop}
use Rattle.rr_routes.proofs.sheets.sheet.Sheet.read_words.Goals as goal

pub loop-word-init : goal.loop-word-init
loop-word-init c = each-none train_of ∙ ap (λ x. Some x) (sym c.new-sheet.ensures)

pub returns-in_default : goal.returns-in_default
returns-in_default c =
    let blank_word : Bor (List ℕ) = record { ref_ptr = (0, 0); now = [] } in
    sym (each-stop (λ word. word.now) train_of c.args.words.now c.loop-word.word-index blank_word c.loop-word-test.true (sym (c.in_ok-train.ensures {u = tt}) ∙ c.in_default.is))

pub loop-word-preserved : goal.loop-word-preserved
loop-word-preserved c =
    let blank_word : Bor (List ℕ) = record { ref_ptr = (0, 0); now = [] } in
    each-next (λ word. word.now) train_of c.args.words.now c.loop-word.word-index blank_word c.loop-word.sheet c.in-Some.train c.loop-word-test.true c.loop-word.invariant
    (sym (c.in_ok-train.ensures {u = tt}) ∙ c.in-Some.is)
    ∙ ap (λ x. Some x) (sym (c.in_ok-push.ensures {u = tt}).ok)
