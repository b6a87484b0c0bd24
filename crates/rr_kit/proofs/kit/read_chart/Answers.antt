use Rattle.std.proofs.Common.{refl}
use Rattle.rr_roster.specs.declared.chart.fault.Fault.TheVariants as H
use Rattle.rr_kit.proofs.KitLemmas.{no_chart}
use Rattle.rr_kit.proofs.kit.read_chart.Goals as goal

pub returns-in-Err : goal.returns-in-Err
returns-in-Err c = (H.BadChart 0 0, refl, no_chart _ c.in-Err.ensures.cases.0)
