use Rattle.std.proofs.Common.{Bool, List, ◌∙◌, subst}
use Rattle.rr_pages.specs.FreePages.{present_of, coming_of}
use Rattle.rr_pages.specs.Writing.{IsLaid}
use Rattle.rr_log.proofs.FormattingLemmas.Holding.{kit_laid}
use Rattle.rr_log.proofs.formatting.kit.lay_kit.Goals as goal

pub returns-clause-laid : goal.returns-clause-laid
returns-clause-laid c =
    let p = present_of c.args.free.now in
    let p1 = c.in_ok-chart.ensures.present in
    let p2 = c.in_ok-roster.ensures.present ∙ p1 in
    let p3 = c.in_ok-tiles.ensures.present ∙ p2 in
    kit_laid p (coming_of c.args.free.now) (coming_of c.lay_text.new.free) (coming_of c.lay_text-2.new.free) (coming_of c.lay_text-3.new.free) (coming_of c.lay_text-4.new.free)
    c.args.fresh.now.items c.lay_text.new.fresh.items c.lay_text-2.new.fresh.items c.lay_text-3.new.fresh.items c.lay_text-4.new.fresh.items
    c.args.chart.now c.args.roster.now c.args.tiles.now c.args.board.now
    (record { chart = c.in_ok-chart.chart; roster = c.in_ok-roster.roster; tiles = c.in_ok-tiles.tiles; board = c.in_ok-board.board })
    c.requires.nothing
    c.in_ok-chart.ensures.laid c.in_ok-chart.ensures.counted
    (subst (λ (marks : List Bool). IsLaid marks (coming_of c.lay_text.new.free) (coming_of c.lay_text-2.new.free) c.args.roster.now c.lay_text.new.fresh.items c.lay_text-2.new.fresh.items c.in_ok-roster.roster.head) p1 c.in_ok-roster.ensures.laid) c.in_ok-roster.ensures.counted
    (subst (λ (marks : List Bool). IsLaid marks (coming_of c.lay_text-2.new.free) (coming_of c.lay_text-3.new.free) c.args.tiles.now c.lay_text-2.new.fresh.items c.lay_text-3.new.fresh.items c.in_ok-tiles.tiles.head) p2 c.in_ok-tiles.ensures.laid) c.in_ok-tiles.ensures.counted
    (subst (λ (marks : List Bool). IsLaid marks (coming_of c.lay_text-3.new.free) (coming_of c.lay_text-4.new.free) c.args.board.now c.lay_text-3.new.fresh.items c.lay_text-4.new.fresh.items c.in_ok-board.board.head) p3 c.in_ok-board.ensures.laid) c.in_ok-board.ensures.counted
