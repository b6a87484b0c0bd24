-- What a command of a corporation's turn adds to a table's book, and what the trains have earned behind it.
use Rattle.std.specs.Prelude.{ℕ, pos, Bool, true, false, List, [], ◌∷◌}
use Rattle.rr_roster.specs.declared.company.Corp.{Corp}
use Rattle.rr_books.specs.declared.parties.Money.{Money}
use Rattle.rr_books.specs.declared.entries.Entry.TheVariants as E
use Rattle.rr_books.specs.declared.acts.Act.{Act}
use Rattle.rr_books.specs.declared.acts.Act.TheVariants as A
use Rattle.rr_books.specs.Book.{Book}
use Rattle.rr_kit.specs.declared.kit.Kit.{Kit}
use Rattle.rr_desk.specs.Effects.{Effect, adds, in_turn}
use Rattle.rr_lay.specs.Laying.{lays_tile}
use Rattle.rr_lay.specs.Placing.{places_token}
use Rattle.rr_running.specs.Running.{run_revenue}
use Rattle.rr_operate.specs.Dividends.Dividends.{pays_out, withholds}
use Rattle.rr_trains.specs.Depot.Effects.{says}
use Rattle.rr_trains.specs.Depot.Effects as depot
use Rattle.rr_operate.specs.Sets.Following.{goes_on_in_operating_round}
use Rattle.rr_operate.specs.Rows.{lay_of, station_of}

-- a run with a certificate: the certificate with its sheet, and the command's words
unfoldable pub runs_best : Corp → List ℕ → List ℕ → Effect
runs_best c sheet certificate = in_turn (adds (E.Best c sheet certificate) ∷ says (A.RunBest c sheet certificate) ∷ [])

-- a turn ends, and what follows by itself on it: the next turn, the next round, or what comes behind the last one
unfoldable pub ends_turn : Kit → Corp → Effect
ends_turn kit c = in_turn (says (A.End c) ∷ goes_on_in_operating_round kit ∷ [])

-- what a command that isn't refused adds, where the trains earned this revenue in this turn
abbrev pub row : Kit → Money → Act → Effect
row kit revenue (A.Lay c hex tile turn) = lays_tile kit.board c (lay_of hex tile turn)
row kit revenue (A.Station c hex centre) = places_token (station_of c hex centre)
row kit revenue (A.Run c sheet) = says (A.Run c sheet)
row kit revenue (A.RunBest c sheet certificate) = runs_best c sheet certificate
row kit revenue (A.PayOut c) = pays_out kit.chart c revenue
row kit revenue (A.Hold c) = withholds kit.chart c revenue
row kit revenue (A.BuyTrain c kind source) = λ book. depot.entries_of kit.roster book (A.BuyTrain c kind source)
row kit revenue (A.BuyTrainFrom c kind seller price s t) = λ book. depot.entries_of kit.roster book (A.BuyTrainFrom c kind seller price s t)
row kit revenue (A.Trade c kind) = λ book. depot.entries_of kit.roster book (A.Trade c kind)
row kit revenue (A.Discard c kind) = λ book. depot.entries_of kit.roster book (A.Discard c kind)
row kit revenue (A.TakePrivate c p price) = λ book. depot.entries_of kit.roster book (A.TakePrivate c p price)
row kit revenue (A.End c) = ends_turn kit c
row kit revenue _ = in_turn []

abbrev pub entries_of : Kit → Money → Book → Act → Book
entries_of kit revenue book act = row kit revenue act book

-- what the trains have earned in this turn, behind a command: what the run earns, nothing once the turn has ended
abbrev pub revenue_after : Kit → Book → Money → Act → Money
revenue_after kit book revenue (A.Run c sheet) = run_revenue kit book c sheet
revenue_after kit book revenue (A.RunBest c sheet certificate) = run_revenue kit book c sheet
revenue_after kit book revenue (A.End c) = record { 0 = pos 0 }
revenue_after kit book revenue _ = revenue

-- a command that is neither a run nor the turn's end leaves it
abbrev pub keeps_revenue : Act → Bool
keeps_revenue (A.Run c sheet) = false
keeps_revenue (A.RunBest c sheet certificate) = false
keeps_revenue (A.End c) = false
keeps_revenue _ = true
