use Rattle.std.proofs.Common.{◌≡◌, Some, None, map, ap, sym, ◌∙◌, subst, arith}
use Rattle.std.proofs.lemmas.Grind.{common_steps}
use Rattle.rr_words.specs.Text.{row_of}
use Rattle.rr_kit.specs.Board.Lines.{add_line}
use Rattle.rr_kit.specs.Board.Plan.{bare}
use Rattle.rr_kit.specs.Board.Reading.{IsFirstWrong}
use Rattle.rr_tiles.proofs.EachLemmas.{added-none, added-next}
use Rattle.rr_kit.proofs.BoardLemmas.RowLemmas.{words_in_row, IsFirstWrong-at, SpellsRows-read}
use Rattle.rr_kit.proofs.board.draft.Draft.read_rows.Goals as goal

pub loop-row-init : goal.loop-row-init
loop-row-init c = added-none add_line bare ∙ ap (λ plan. Some plan) (sym c.bare-draft.ensures)

pub returns-then-not-branch : goal.returns-then-not-branch
returns-then-not-branch c =
    let refused : None ≡ add_line c.loop-row.draft (map (λ word. word.now) c.deref.result.now) = grind (arith, common_steps) in
    let none = refused ∙ ap (λ items. add_line c.loop-row.draft (map (λ word. word.now) items)) c.deref.ensures.value ∙ ap (λ row. add_line c.loop-row.draft (words_in_row row)) c.row-item.is in
    subst (λ row. IsFirstWrong (map row_of c.args.rows.now) row.number) (sym c.row-item.is)
    (IsFirstWrong-at c.args.rows.now c.loop-row.row-index c.row-item.result c.loop-row.draft c.loop-row-test.true c.loop-row.invariant none)

pub loop-row-preserved : goal.loop-row-preserved
loop-row-preserved c =
    let kept : Some c.take.new.self ≡ add_line c.loop-row.draft (map (λ word. word.now) c.deref.result.now) = grind (arith, common_steps) in
    let more = kept ∙ ap (λ items. add_line c.loop-row.draft (map (λ word. word.now) items)) c.deref.ensures.value ∙ ap (λ row. add_line c.loop-row.draft (words_in_row row)) c.row-item.is in
    added-next words_in_row add_line bare c.args.rows.now c.loop-row.row-index c.row-item.result c.loop-row.draft c.take.new.self c.loop-row-test.true c.loop-row.invariant more

pub returns : goal.returns
returns c = SpellsRows-read c.args.rows.now c.loop-row.row-index c.loop-row.draft c.loop-row-test.false c.loop-row.invariant
