use Rattle.std.proofs.Common.{◌≡◌, ◌∙◌, Option, None, Some, ap, is_some, refl}
use Rattle.std.specs.Prelude.{option_map}
use Rattle.rr_books.specs.declared.entries.Cell.{Cell}
use Rattle.rr_roster.specs.Chart.Chart.{par_place}
use Rattle.rr_roster.specs.declared.chart.cell.Place.{Place}
use Rattle.rr_market.specs.Moves.{cell_of}
use Rattle.rr_stock.proofs.judging.par_on_chart.Goals as goal

there_too : (place : Option Place) → is_some (option_map cell_of place) ≡ is_some place
there_too None = refl
there_too (Some place) = refl

pub returns-clause-there : goal.returns-clause-there
returns-clause-there c = ap (λ (o : Option Cell). is_some o) c.in_ok-_cell.ensures.value ∙ there_too (par_place c.args.chart.now c.args.price)
