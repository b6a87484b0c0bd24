use Rattle.rr_roster.proofs.ChartLemmas.PlaceLemmas.{lent-places, lent-different}
use Rattle.rr_roster.proofs.chart.chart.Chart.par_cells.Goals as goal

pub returns-clause-places : goal.returns-clause-places
returns-clause-places c = lent-places c.self.inside.rows.items c.args.self.now c.self.inside.pars.items c.deref.result.now c.deref.ensures.value c.self.invariant.0 c.self.view_is

pub returns-clause-different : goal.returns-clause-different
returns-clause-different c = lent-different c.self.inside.rows.items c.self.inside.pars.items c.deref.result.now c.deref.ensures.value c.self.invariant.0 c.self.invariant.1
