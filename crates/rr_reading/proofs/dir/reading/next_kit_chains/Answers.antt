use Rattle.std.proofs.Common.{arith, ap, length, length-append}
use Rattle.rr_reading.specs.Dir.Directory.{spelled_chain}
use Rattle.rr_reading.proofs.DirLemmas.ChainRefLemmas.{length-spelled_chain}
use Rattle.rr_reading.proofs.dir.reading.next_kit_chains.Goals as goal

pub returns-in_err-roster : goal.returns-in_err-roster
returns-in_err-roster c =
    rw c.from_residual-in_err-roster.ensures (omega (arith, ap length c.in_ok-chart.ensures.1, length-append (spelled_chain c.in_ok-chart.chart) c.next_chain.new.cursor, length-spelled_chain c.in_ok-chart.chart, c.in_err-roster.ensures))

pub returns-in_err-tiles : goal.returns-in_err-tiles
returns-in_err-tiles c =
    rw c.from_residual-in_err-tiles.ensures (omega (
      arith,
      ap length c.in_ok-chart.ensures.1,
      length-append (spelled_chain c.in_ok-chart.chart) c.next_chain.new.cursor,
      length-spelled_chain c.in_ok-chart.chart,
      ap length c.in_ok-roster.ensures.1,
      length-append (spelled_chain c.in_ok-roster.roster) c.next_chain-2.new.cursor,
      length-spelled_chain c.in_ok-roster.roster,
      c.in_err-tiles.ensures,
    ))

pub returns-in_err-board : goal.returns-in_err-board
returns-in_err-board c =
    rw c.from_residual-in_err-board.ensures (omega (
      arith,
      ap length c.in_ok-chart.ensures.1,
      length-append (spelled_chain c.in_ok-chart.chart) c.next_chain.new.cursor,
      length-spelled_chain c.in_ok-chart.chart,
      ap length c.in_ok-roster.ensures.1,
      length-append (spelled_chain c.in_ok-roster.roster) c.next_chain-2.new.cursor,
      length-spelled_chain c.in_ok-roster.roster,
      ap length c.in_ok-tiles.ensures.1,
      length-append (spelled_chain c.in_ok-tiles.tiles) c.next_chain-3.new.cursor,
      length-spelled_chain c.in_ok-tiles.tiles,
      c.in_err-board.ensures,
    ))
