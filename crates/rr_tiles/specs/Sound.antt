-- What a tile may have.
use Rattle.std.specs.Prelude.{◌≡◌, ◌≢◌, ℕ, ◌%◌, ◌<◌, ◌≤◌, List, All, AllPairs, IfSome}
use Rattle.rr_tiles.specs.Tile.{Face, IsSameTrack}
use Rattle.rr_tiles.specs.declared.part.Track.{Track}
use Rattle.rr_tiles.specs.declared.part.Centre.{Centre}
use Rattle.rr_tiles.specs.declared.part.Kind.{Kind}
use Rattle.rr_tiles.specs.declared.part.Kind.TheVariants.{Town, City, OffBoard}
use Rattle.rr_tiles.specs.declared.part.Label.{Label}
use Rattle.rr_tiles.specs.declared.part.Part.{Part}
use Rattle.rr_tiles.specs.declared.part.Part.TheVariants.{Track as OfTrack, Centre as OfCentre}

abbrev pub IsEdge : ℕ → Type 0
IsEdge edge = edge < 6

-- edges, none of them twice
pub record AreEdges (edges : List ℕ) : Type 0 where
  pub each : All IsEdge edges
  pub different : AllPairs ◌≢◌ edges

pub record IsTrack (track : Track) : Type 0 where
  pub from_edge : IsEdge track.from
  pub to_edge : IsEdge track.to
  pub different : track.from ≢ track.to

-- a multiple of 10 from 0 to 990
pub record IsValue (n : ℕ) : Type 0 where
  pub tens : n % 10 ≡ 0
  pub to_990 : n ≤ 990

-- a city has 1 to 4 slots
abbrev pub IsKind : Kind → Type 0
IsKind Town = Unit {0}
IsKind (City slots) = (1 ≤ slots) × (slots ≤ 4)
IsKind (OffBoard later_value) = IsValue later_value

pub record IsCentre (centre : Centre) : Type 0 where
  pub sound_kind : IsKind centre.kind
  pub sound_value : IsValue centre.value
  pub sound_edges : AreEdges centre.edges

abbrev pub IsPart : Part → Type 0
IsPart (OfTrack track) = IsTrack track
IsPart (OfCentre centre) = IsCentre centre

-- a capital letter
abbrev pub IsCapital : ℕ → Type 0
IsCapital letter = (65 ≤ letter) × (letter ≤ 90)

pub record IsLabel (label : Label) : Type 0 where
  pub first_letter : IsCapital label.first
  pub second_letter : IfSome label.second IsCapital

abbrev pub AreNotOneTrack : Part → Part → Type 0
AreNotOneTrack (OfTrack track) (OfTrack other) = ¬ IsSameTrack track other
AreNotOneTrack (OfTrack track) (OfCentre centre) = Unit {0}
AreNotOneTrack (OfCentre centre) other = Unit {0}

-- sound tracks and centres, no track twice, and at most one sound label
pub record IsTile (face : Face) : Type 0 where
  pub sound_parts : All IsPart face.parts
  pub tracks_once : AllPairs AreNotOneTrack face.parts
  pub sound_label : IfSome face.label IsLabel
