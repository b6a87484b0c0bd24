use Rattle.std.proofs.Common.{ℕ, List, ◌∙◌, ap}
use Rattle.rr_checkpoint.specs.Writer.{free_of}
use Rattle.rr_pages.specs.FreePages.{coming_of}
use Rattle.rr_pages.specs.Sets.{all_marked}
use Rattle.rr_checkpoint.proofs.PlanLemmas.Frames.{onward, four_marked}
use Rattle.rr_reading.specs.Worlds.Spelling.{worlds}
use Rattle.rr_checkpoint.proofs.plan.keeping.keep_texts.Goals as goal

pub returns-clause-coming : goal.returns-clause-coming
returns-clause-coming g c =
    let kit = c.args.kit.now in
    let m0 = coming_of (free_of c.args.writer.now) in
    let m1 = coming_of (free_of c.keep_pages.new.writer) in
    let m2 = coming_of (free_of c.keep_pages-2.new.writer) in
    let m3 = coming_of (free_of c.keep_pages-3.new.writer) in
    let m4 = coming_of (free_of c.keep_pages-4.new.writer) in
    four_marked m0 m1 m2 m3 m4 kit.chart.pages.items kit.roster.pages.items kit.tiles.pages.items kit.board.pages.items
    (c.keep_pages.ensures.coming ∙ ap (λ (pages : List ℕ). all_marked m0 pages) c.deref.ensures.value)
    (c.keep_pages-2.ensures.coming ∙ ap (λ (pages : List ℕ). all_marked m1 pages) c.deref-2.ensures.value)
    (c.keep_pages-3.ensures.coming ∙ ap (λ (pages : List ℕ). all_marked m2 pages) c.deref-3.ensures.value)
    (c.keep_pages-4.ensures.coming ∙ ap (λ (pages : List ℕ). all_marked m3 pages) c.deref-4.ensures.value)

pub returns-clause-only : goal.returns-clause-only
returns-clause-only g c =
    let codec = worlds g.R.Rules.rules in
    let w0 = c.args.writer.now in
    let w1 = c.keep_pages.new.writer in
    let w2 = c.keep_pages-2.new.writer in
    let w3 = c.keep_pages-3.new.writer in
    let w4 = c.keep_pages-4.new.writer in
    onward codec w0 w1 w4 c.keep_pages.ensures.only
    (onward codec w1 w2 w4 c.keep_pages-2.ensures.only (onward codec w2 w3 w4 c.keep_pages-3.ensures.only c.keep_pages-4.ensures.only))
