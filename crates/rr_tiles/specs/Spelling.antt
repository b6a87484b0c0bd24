-- How words spell a tile.
use Rattle.std.specs.Prelude.{◌≡◌, ℕ, ◌+◌, List, [], ◌∷◌, ◌++◌, map, filter_map, decimal, Option, None, Some, option_to_list}
use Rattle.std.specs.List.{join_with_byte}
use Rattle.rr_tiles.specs.Tile.{Face}
use Rattle.rr_tiles.specs.Sound.{IsPart, IsLabel, IsTile}
use Rattle.rr_tiles.specs.declared.part.Track.{Track}
use Rattle.rr_tiles.specs.declared.part.Centre.{Centre}
use Rattle.rr_tiles.specs.declared.part.Kind.{Kind}
use Rattle.rr_tiles.specs.declared.part.Kind.TheVariants.{Town, City, OffBoard}
use Rattle.rr_tiles.specs.declared.part.Label.{Label}
use Rattle.rr_tiles.specs.declared.part.Part.{Part}
use Rattle.rr_tiles.specs.declared.part.Part.TheVariants.{Track as OfTrack, Centre as OfCentre}
use Rattle.rr_tiles.specs.declared.element.Element.{Element}
use Rattle.rr_tiles.specs.declared.element.Element.TheVariants.{Part as OfPart, Label as OfLabel}

-- the digit of an edge
abbrev pub edge_word : ℕ → List ℕ
edge_word edge = (48 + edge) ∷ []

-- the edges, with a comma between each two
abbrev pub edges_text : List ℕ → List ℕ
edges_text edges = join_with_byte 44 (map edge_word edges)

-- as 0-1
abbrev pub track_word : Track → List ℕ
track_word track = (48 + track.from) ∷ 45 ∷ (48 + track.to) ∷ []

-- t, c or o
abbrev pub kind_letter : Kind → ℕ
kind_letter Town = 116
kind_letter (City slots) = 99
kind_letter (OffBoard later_value) = 111

-- what stands behind the value: nothing, as /2 or as /40
abbrev pub kind_mark : Kind → List ℕ
kind_mark Town = []
kind_mark (City slots) = 47 ∷ decimal slots
kind_mark (OffBoard later_value) = 47 ∷ decimal later_value

-- as t10:0,3 or c30/2:0,1,2,3 or o40/60:2
abbrev pub centre_word : Centre → List ℕ
centre_word centre = kind_letter centre.kind ∷ (decimal centre.value ++ kind_mark centre.kind) ++ 58 ∷ edges_text centre.edges

-- as L=B or L=NY
abbrev pub label_word : Label → List ℕ
label_word label = 76 ∷ 61 ∷ label.first ∷ option_to_list label.second

abbrev pub word_of : Element → List ℕ
word_of (OfPart (OfTrack track)) = track_word track
word_of (OfPart (OfCentre centre)) = centre_word centre
word_of (OfLabel label) = label_word label

abbrev pub IsElement : Element → Type 0
IsElement (OfPart part) = IsPart part
IsElement (OfLabel label) = IsLabel label

abbrev pub part_in : Element → Option Part
part_in (OfPart part) = Some part
part_in (OfLabel label) = None

abbrev pub label_of : Element → Option Label
label_of (OfPart part) = None
label_of (OfLabel label) = Some label

-- the words are those of the tile's parts in their order, and of its label, wherever that stands
pub record SpellsTile (words : List (List ℕ)) (face : Face) : Type 0 where
  pub elements : List Element
  pub words_are : words ≡ map word_of elements
  pub parts_are : face.parts ≡ filter_map part_in elements
  pub label_is : option_to_list face.label ≡ filter_map label_of elements
  pub is_tile : IsTile face
