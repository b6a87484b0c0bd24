use Rattle.std.proofs.Common.{sym, ◌∙◌, ap}
use Rattle.rr_books.specs.declared.entries.Cell.{Cell}
use Rattle.rr_market.specs.Moves.{fallen, fallen_by-none, fallen_by-more}
use Rattle.rr_market.proofs.moves.fallen_by.Goals as goal

pub loop-row-init : goal.loop-row-init
loop-row-init c = sym (fallen_by-none c.args.chart.now c.args.cell)

pub loop-row-preserved : goal.loop-row-preserved
loop-row-preserved c =
    c.fallen-lower.ensures ∙ ap (λ (cell : Cell). fallen c.args.chart.now cell) c.loop-row.invariant ∙ sym (fallen_by-more c.args.chart.now c.loop-row._row c.args.cell)
