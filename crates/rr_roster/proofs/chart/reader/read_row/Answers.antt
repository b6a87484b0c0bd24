use Rattle.std.proofs.Common.{◌≡◌, ℕ, List, [], length, map, get_or, refl, sym, ap, ◌∙◌, subst, arith}
use Rattle.std.proofs.lemmas.List.{length-map}
use denote.Ref.{Bor}
use Rattle.rr_words.specs.Text.{row_of}
use Rattle.rr_roster.specs.Chart.Reading.{next_cell}
use Rattle.rr_roster.proofs.ChartLemmas.FrontLemmas.{IsReadTo, IsReadTo-start, IsReadTo-next, IsReadTo-stop, IsReadTo-end, word-here, words-within}
use Rattle.rr_roster.proofs.chart.reader.read_row.Goals as goal

pub loop-column-init : goal.loop-column-init
loop-column-init c = rw c.new-cells.ensures.items (IsReadTo-start c.args.above.now (map (λ word. word.now) c.args.line.now.words.items) c.args.pars.now.items c.requires.front c.requires.pars)

pub returns-in_default : goal.returns-in_default
returns-in_default c =
    let blank : Bor (List ℕ) = record { ref_ptr = (0, 0); now = [] } in
    let items = c.deref-word-items.result.now in
    let word = (get_or items c.loop-column.column blank).now in (
      refl,
      IsReadTo-stop c.args.above.now (map (λ w. w.now) c.args.line.now.words.items) c.loop-column.column c.loop-column.cells.items c.loop-column.pars.items word
          c.loop-column.invariant
          (words-within items c.args.line.now.words.items c.loop-column.column c.deref-word-items.ensures.value c.loop-column-test.true)
          (word-here items c.args.line.now.words.items c.loop-column.column blank word c.deref-word-items.ensures.value c.loop-column-test.true)
          (ap (λ p. next_cell (record { row = length c.args.above.now; column = c.loop-column.column }) word p) (sym c.deref.ensures.value) ∙ sym c.next_cell.ensures ∙ c.in_default.is),
    )

pub loop-column-preserved : goal.loop-column-preserved
loop-column-preserved c =
    let blank : Bor (List ℕ) = record { ref_ptr = (0, 0); now = [] } in
    let items = c.deref-word-items.result.now in
    let word = (get_or items c.loop-column.column blank).now in
    IsReadTo-next c.args.above.now (map (λ w. w.now) c.args.line.now.words.items) c.loop-column.column c.loop-column.cells.items c.loop-column.pars.items word c.in-Some.cell _ _
    c.loop-column.invariant
    (words-within items c.args.line.now.words.items c.loop-column.column c.deref-word-items.ensures.value c.loop-column-test.true)
    (word-here items c.args.line.now.words.items c.loop-column.column blank word c.deref-word-items.ensures.value c.loop-column-test.true)
    (ap (λ p. next_cell (record { row = length c.args.above.now; column = c.loop-column.column }) word p) (sym c.deref.ensures.value) ∙ sym c.in-Some.ensures)
    c.in_ok-push.ensures.items
    c.in_ok-note_par.ensures

pub returns : goal.returns
returns c =
    let words = map (λ w. w.now) c.args.line.now.words.items in
    let whole : length words ≡ c.loop-column.column = length-map c.args.line.now.words.items (λ w. w.now) ∙ sym (ap length c.deref-word-items.ensures.value) ∙ (omega arith) in
    IsReadTo-end c.args.above.now (row_of c.args.line.now) c.loop-column.cells.items c.loop-column.pars.items
    (subst (λ n. IsReadTo c.args.above.now words n c.loop-column.cells.items c.loop-column.pars.items) (sym whole) c.loop-column.invariant)
    c.requires.some_word
