use Rattle.rr_roster.proofs.ChartLemmas.PlaceLemmas.{par_place-is_par}
use Rattle.rr_roster.proofs.chart.chart.Chart.par_cell.Goals as goal

pub returns-clause-place : goal.returns-clause-place
returns-clause-place c = rw c.first_par.ensures (par_place-is_par c.args.self.now c.args.price)
