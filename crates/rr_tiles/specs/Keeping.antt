-- What a tile that takes another's place keeps, and the test of it.
use Rattle.std.specs.Prelude.{◌≡◌, ℕ, ◌≤◌, ◌==◌, ◌&&◌, nat_le, Bool, true, false, List, [], ◌∷◌, All, Contains}
use Rattle.std.specs.List.{list_any, list_all, AllZip}
use Rattle.rr_tiles.specs.Edge.{turned_edge}
use Rattle.rr_tiles.specs.Tile.{Face, IsSameTrack, centres_of, is_same_track, turned_track}
use Rattle.rr_tiles.specs.declared.part.Track.{Track}
use Rattle.rr_tiles.specs.declared.part.Centre.{Centre}
use Rattle.rr_tiles.specs.declared.part.Kind.{Kind}
use Rattle.rr_tiles.specs.declared.part.Kind.TheVariants.{Town, City, OffBoard}
use Rattle.rr_tiles.specs.declared.part.Part.{Part}
use Rattle.rr_tiles.specs.declared.part.Part.TheVariants.{Track as OfTrack, Centre as OfCentre}

-- one of the parts is this track
pub record HasTrack (parts : List Part) (track : Track) : Type 0 where
  pub other : Track
  pub among : Contains parts (OfTrack other)
  pub same : IsSameTrack track other

-- a town stays a town, and a city a city that loses no slot
abbrev pub KeepsKind : Kind → Kind → Type 0
KeepsKind Town Town = Unit {0}
KeepsKind (City slots) (City more) = slots ≤ more
KeepsKind (OffBoard later_value) (OffBoard other_value) = Unit {0}
KeepsKind old new = ⊥

-- a centre of the old one's kind that has each of its edges
pub record KeepsCentre (old new : Centre) : Type 0 where
  pub kind : KeepsKind old.kind new.kind
  pub edges : All (Contains new.edges) old.edges

-- the tile has each of the old one's tracks, its label, and as many centres, each of which keeps the
-- old one of its number
pub record Keeps (old new : Face) : Type 0 where
  pub tracks : (track : Track) → HasTrack old.parts track → HasTrack new.parts track
  pub label : new.label ≡ old.label
  pub centres : AllZip KeepsCentre (centres_of old.parts) (centres_of new.parts)

-- the same as tests, of the new tile before its turn
abbrev pub is_turned_track : ℕ → Track → Part → Bool
is_turned_track turn track (OfTrack other) = is_same_track track (turned_track turn other)
is_turned_track turn track (OfCentre centre) = false

abbrev pub has_turned_track : ℕ → List Part → Track → Bool
has_turned_track turn new track = list_any (is_turned_track turn track) new

abbrev pub keeps_track : ℕ → List Part → Part → Bool
keeps_track turn new (OfTrack track) = has_turned_track turn new track
keeps_track turn new (OfCentre centre) = true

abbrev pub keeps_tracks : ℕ → List Part → List Part → Bool
keeps_tracks turn new old = list_all (keeps_track turn new) old

abbrev pub has_turned_edge : ℕ → List ℕ → ℕ → Bool
has_turned_edge turn new edge = list_any (λ other. turned_edge turn other == edge) new

abbrev pub keeps_edges : ℕ → List ℕ → List ℕ → Bool
keeps_edges turn new old = list_all (has_turned_edge turn new) old

abbrev pub keeps_kind : Kind → Kind → Bool
keeps_kind Town Town = true
keeps_kind (City slots) (City more) = nat_le slots more
keeps_kind (OffBoard later_value) (OffBoard other_value) = true
keeps_kind old new = false

abbrev pub keeps_centre : ℕ → Centre → Centre → Bool
keeps_centre turn old new = keeps_kind old.kind new.kind && keeps_edges turn new.edges old.edges

unfoldable pub keeps_centres : ℕ → List Centre → List Centre → Bool
keeps_centres turn [] [] = true
keeps_centres turn [] (new ∷ news) = false
keeps_centres turn (old ∷ olds) [] = false
keeps_centres turn (old ∷ olds) (new ∷ news) = keeps_centre turn old new && keeps_centres turn olds news
