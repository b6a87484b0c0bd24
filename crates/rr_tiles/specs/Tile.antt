-- What a tile is, and where a turn takes it.
use Rattle.std.specs.Prelude.{◌≡◌, ℕ, ◌⊎◌, ◌==◌, ◌&&◌, ◌||◌, Bool, false, List, [], map, filter_map, Option, None, Some}
use Rattle.std.specs.List.{list_any}
use Rattle.rr_tiles.specs.Edge.{turned_edge}
use Rattle.rr_tiles.specs.declared.part.Track.{Track}
use Rattle.rr_tiles.specs.declared.part.Centre.{Centre}
use Rattle.rr_tiles.specs.declared.part.Label.{Label}
use Rattle.rr_tiles.specs.declared.part.Part.{Part}
use Rattle.rr_tiles.specs.declared.part.Part.TheVariants.{Track as OfTrack, Centre as OfCentre}

-- a tile: its tracks and centres in the order of its text, and its label
pub record Face : Type 0 where
  pub parts : List Part
  pub label : Option Label

-- a tile without anything
abbrev pub blank : Face
blank = record { parts = []; label = None }

abbrev pub turned_track : ℕ → Track → Track
turned_track turn track = record { from = turned_edge turn track.from; to = turned_edge turn track.to }

abbrev pub turned_centre : ℕ → Centre → Centre
turned_centre turn centre = record { kind = centre.kind; value = centre.value; edges = map (turned_edge turn) centre.edges }

abbrev pub turned_part : ℕ → Part → Part
turned_part turn (OfTrack track) = OfTrack (turned_track turn track)
turned_part turn (OfCentre centre) = OfCentre (turned_centre turn centre)

-- the tile with each edge e at e + turn modulo 6
abbrev pub turned : ℕ → Face → Face
turned turn face = record { parts = map (turned_part turn) face.parts; label = face.label }

-- 0-1 and 1-0 are one track
abbrev pub IsSameTrack : Track → Track → Type 0
IsSameTrack track other = ((track.from ≡ other.from) × (track.to ≡ other.to)) ⊎ ((track.from ≡ other.to) × (track.to ≡ other.from))

abbrev pub is_same_track : Track → Track → Bool
is_same_track track other = (track.from == other.from && track.to == other.to) || (track.from == other.to && track.to == other.from)

abbrev pub is_track_of : Track → Part → Bool
is_track_of track (OfTrack other) = is_same_track track other
is_track_of track (OfCentre centre) = false

abbrev pub has_track : List Part → Track → Bool
has_track parts track = list_any (is_track_of track) parts

abbrev pub centre_in : Part → Option Centre
centre_in (OfTrack track) = None
centre_in (OfCentre centre) = Some centre

-- the centres, of which the first has the number 1
abbrev pub centres_of : List Part → List Centre
centres_of parts = filter_map centre_in parts
