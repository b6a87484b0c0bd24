-- What a corporation's trains earned, worked out by hand on a board of two hexes.
use Rattle.std.specs.Prelude.{◌≡◌, ℕ, pos, List, [], ◌∷◌, ◌++◌, None}
use Rattle.rr_roster.specs.declared.company.Corp.{Corp}
use Rattle.rr_roster.specs.declared.company.Kind.TheVariants as K
use Rattle.rr_books.specs.declared.acts.Act.{Act}
use Rattle.rr_books.specs.declared.acts.Act.TheVariants as A
use Rattle.rr_books.specs.declared.entries.Entry.{Entry}
use Rattle.rr_books.specs.declared.entries.Entry.TheVariants as E
use Rattle.rr_books.specs.declared.entries.Marker.TheVariants as M
use Rattle.rr_books.specs.declared.parties.Place.TheVariants as L
use Rattle.rr_books.specs.Book.{Book}
use Rattle.rr_desk.specs.Incomes.{dollars}
use Rattle.rr_kit.specs.Board.Plan.{Plan}
use Rattle.rr_kit.specs.declared.board.hex.Colour.TheVariants.{Red, White}
use Rattle.rr_kit.specs.declared.board.hex.Hex.{Hex}
use Rattle.rr_kit.specs.declared.kit.Kit.{Kit}
use Rattle.rr_market.specs.Operations.Phases.{train}
use Rattle.rr_market.specs.Operations.WorkedRound.{one_row}
use Rattle.rr_operate.specs.Sets.WorkedSets.{usual_terms}
use Rattle.rr_running.specs.Running.{run_revenue}
use Rattle.rr_tiles.specs.declared.part.Kind.{Kind}
use Rattle.rr_tiles.specs.declared.part.Kind.TheVariants.{City, OffBoard}
use Rattle.rr_tiles.specs.declared.part.Part.TheVariants.{Centre}
use Rattle.rr_laws.specs.Revenue.{revenue_of}

-- a hex with one centre of this value, which is linked with one edge
abbrev pub hex_with : List ℕ → ℕ → Kind → ℕ → ℕ → Hex
hex_with name r kind value edge = record {
  name = name;
  place = record { q = pos 0; r = pos r };
  colour = White;
  cost = 0;
  tile = record { parts = Centre (record { kind = kind; value = value; edges = edge ∷ [] }) ∷ []; label = None };
}

-- a city worth 20 in hex a, and across its edge 0 an area worth 10, and 50 from the first 5 on, in hex b
abbrev pub board : Plan
board = record {
  hexes = hex_with (97 ∷ []) 0 (City 1) 20 0 ∷ record (hex_with (98 ∷ []) 1 (OffBoard 50) 10 3) { colour = Red } ∷ [];
  homes = [];
  blocks = [];
}

abbrev pub kit : Kit
kit = record { roster = usual_terms; chart = one_row; tiles = []; board = board }

abbrev pub says : Act → Entry
says act = E.Step (M.Act act)

-- the PRR has a token in the city, and a 2
abbrev pub ready : Book
ready = E.Station Corp.Prr (97 ∷ []) 1 ∷ E.Train (train K.Two 1) (L.Corp Corp.Prr) ∷ []

-- `2=1-2`, and `s1`
abbrev pub sheet : List ℕ
sheet = 50 ∷ 61 ∷ 49 ∷ 45 ∷ 50 ∷ []

abbrev pub certificate : List ℕ
certificate = 115 ∷ 49 ∷ []

-- the PRR ran for 30; after that the NYC buys the first 5
abbrev pub has_run : Book
has_run = ready ++ says (A.Run Corp.Prr sheet) ∷ []

abbrev pub first_five : Entry
first_five = E.Train (train K.Five 1) (L.Corp Corp.Nyc)

-- A run is paid what it earned when it was run, whatever is sold after it, and so is a run as best. When the turn has ended
-- nothing is left of it. The next corporation's run is judged by that corporation's own trains.
pub record WorkedRevenue : Type 0 where
  pub before : revenue_of kit ready ≡ dollars 0
  pub ran : revenue_of kit has_run ≡ dollars 30
  pub still : revenue_of kit (has_run ++ first_five ∷ []) ≡ dollars 30
  pub now : run_revenue kit (has_run ++ first_five ∷ []) Corp.Prr sheet ≡ dollars 70
  pub best : revenue_of kit (ready ++ E.Best Corp.Prr sheet certificate ∷ says (A.RunBest Corp.Prr sheet certificate) ∷ first_five ∷ []) ≡ dollars 30
  pub ended : revenue_of kit (has_run ++ says (A.End Corp.Prr) ∷ []) ≡ dollars 0
  pub next : revenue_of kit (has_run ++ says (A.End Corp.Prr) ∷ says (A.Run Corp.Nyc []) ∷ []) ≡ dollars 0
  pub later : revenue_of kit (has_run ++ says (A.End Corp.Prr) ∷ first_five ∷ says (A.Run Corp.Prr sheet) ∷ []) ≡ dollars 70
