use Rattle.std.proofs.Common.{◌≡◌, [], Some, None, map, ap, sym, ◌∙◌, subst, arith}
use Rattle.std.proofs.lemmas.Grind.{common_steps}
use Rattle.rr_words.specs.Text.{row_of}
use Rattle.rr_tiles.specs.Manifest.{IsFirstWrong}
use Rattle.rr_tiles.specs.Supply.{add_line}
use Rattle.rr_tiles.proofs.EachLemmas.{added-none, added-next}
use Rattle.rr_tiles.proofs.ManifestLemmas.{words_in_row, IsFirstWrong-at, SpellsLines-read}
use Rattle.rr_tiles.proofs.manifest.Manifest.read_lines.Goals as goal

pub loop-line-init : goal.loop-line-init
loop-line-init c = added-none add_line [] ∙ ap (λ supplies. Some supplies) (sym c.empty-manifest.ensures)

pub returns-then-not-branch : goal.returns-then-not-branch
returns-then-not-branch c =
    let refused : None ≡ add_line c.loop-line.manifest (map (λ word. word.now) c.deref.result.now) = grind (arith, common_steps) in
    let none = refused ∙ ap (λ items. add_line c.loop-line.manifest (map (λ word. word.now) items)) c.deref.ensures.value ∙ ap (λ row. add_line c.loop-line.manifest (words_in_row row)) c.line-item.is in
    subst (λ row. IsFirstWrong (map row_of c.args.lines.now) row.number) (sym c.line-item.is)
    (IsFirstWrong-at c.args.lines.now c.loop-line.line-index c.line-item.result c.loop-line.manifest c.loop-line-test.true c.loop-line.invariant none)

pub loop-line-preserved : goal.loop-line-preserved
loop-line-preserved c =
    let kept : Some c.take.new.self ≡ add_line c.loop-line.manifest (map (λ word. word.now) c.deref.result.now) = grind (arith, common_steps) in
    let more = kept ∙ ap (λ items. add_line c.loop-line.manifest (map (λ word. word.now) items)) c.deref.ensures.value ∙ ap (λ row. add_line c.loop-line.manifest (words_in_row row)) c.line-item.is in
    added-next words_in_row add_line [] c.args.lines.now c.loop-line.line-index c.line-item.result c.loop-line.manifest c.take.new.self c.loop-line-test.true c.loop-line.invariant more

pub returns : goal.returns
returns c = SpellsLines-read c.args.lines.now c.loop-line.line-index c.loop-line.manifest c.loop-line-test.false c.loop-line.invariant
