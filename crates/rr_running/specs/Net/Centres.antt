-- The centres of a network for one corporation and phase.
use Rattle.std.specs.Prelude.{◌≡◌, ℕ, ◌+◌, ◌≤◌, count_by, ◌==◌, ◌&&◌, Bool, true, false, bytes_eq, if◌then◌else◌, List, [], ◌∷◌}
use Rattle.rr_roster.specs.declared.company.Corp.{Corp}
use Rattle.rr_roster.specs.declared.company.Kind.{Kind as TrainKind}
use Rattle.rr_roster.specs.declared.company.Kind.TheVariants.{Five, Six, Diesel}
use Rattle.rr_tiles.specs.declared.part.Kind.{Kind}
use Rattle.rr_tiles.specs.declared.part.Kind.TheVariants.{City, OffBoard}
use Rattle.rr_desk.specs.declared.layout.layout.Station.{Station}
use Rattle.rr_network.specs.declared.network.Stop.{Stop}
use Rattle.rr_network.specs.declared.node.CentreAt.{CentreAt}
use Rattle.rr_network.specs.declared.node.Node.TheVariants.{Centre}
use Rattle.rr_network.specs.Walk.{has_token, kind_stops}

-- the places of those that pass, where the first has this place
unfoldable pub places_from : {X : Type 0} → ℕ → (X → Bool) → List X → List ℕ
places_from place test [] = []
places_from place test (x ∷ xs) =
    if test x then place ∷ places_from (place + 1) test xs else places_from (place + 1) test xs

-- the places of those that pass, in order
abbrev pub places : {X : Type 0} → (X → Bool) → List X → List ℕ
places test xs = places_from 0 test xs

-- the token stands there
abbrev pub stands_at : Station → CentreAt → Bool
stands_at station at = bytes_eq at.hex station.hex && at.number == station.centre

-- a token of the corporation stands there
abbrev pub has_own_token : List Station → Corp → Stop → Bool
has_own_token stations corp stop = has_token stations corp (Centre stop.at)

-- no route of the corporation goes on from there: an off-board area, or a city whose slots others fill
abbrev pub ends_routes : List Station → Corp → Stop → Bool
ends_routes stations corp stop = kind_stops stations corp (Centre stop.at) stop.kind

-- the phase is that of a 5 or of a later train
abbrev pub is_late : TrainKind → Bool
is_late Five = true
is_late Six = true
is_late Diesel = true
is_late _ = false

-- what a centre of that kind and first value is worth
abbrev pub worth_as : TrainKind → Kind → ℕ → ℕ
worth_as phase (OffBoard later) value = if is_late phase then later else value
worth_as phase _ value = value

-- what a centre is worth in the phase: an off-board area has its second value from the first 5 on
abbrev pub value_in : TrainKind → Stop → ℕ
value_in phase stop = worth_as phase stop.kind stop.value

-- Where no more tokens stand in a city than it has slots, it ends no routes of a corporation with a token there.
abbrev pub OwnCitiesAreOpen : Type 0
OwnCitiesAreOpen = (stations : List Station) (corp : Corp) (stop : Stop) (slots : ℕ) → stop.kind ≡ City slots
    → count_by (λ station. stands_at station stop.at) stations ≤ slots → has_own_token stations corp stop ≡ true → ends_routes stations corp stop ≡ false
