-- The worked rows of what trains earned.
use Rattle.std.specs.Prelude.{refl}
use Rattle.rr_books.specs.Book.{train_holder}
use Rattle.rr_desk.specs.Layout.Layout.{lays, stations}
use Rattle.rr_market.specs.Operations.Phases.{is_sold, phase}
use Rattle.rr_network.specs.Network.{links_in, stops_in}
use Rattle.rr_referee.specs.Revenue.{revenue_of as revenue_on}
use Rattle.rr_routes.specs.Sheets.Each.{each}
use Rattle.rr_routes.specs.Sheets.Reading.{kind_of, sheet_in}
use Rattle.rr_running.specs.Net.Centres.{places_from}
use Rattle.rr_running.specs.Running.{kinds_held}
use Rattle.rr_trains.specs.Places.{trains_at}
use Rattle.rr_laws.specs.Revenue.{revenue_of}
use Rattle.rr_laws.specs.WorkedRevenue.{WorkedRevenue}

pub worked_revenue : WorkedRevenue
unfolding revenue_of revenue_on train_holder lays stations is_sold phase links_in stops_in each kind_of sheet_in places_from kinds_held trains_at
worked_revenue = record { before = refl; ran = refl; still = refl; now = refl; best = refl; ended = refl; next = refl; later = refl }
