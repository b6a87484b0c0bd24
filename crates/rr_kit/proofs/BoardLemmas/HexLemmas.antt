-- The hex that words spell, and what a board with one more needs.
use Rattle.std.proofs.Common.{◌≡◌, ◌≢◌, ℕ, ◌+◌, ◌<◌, ◌≤◌, refl, sym, ap, ◌∙◌, subst, Bool, true, false, List, [], ◌∷◌, ◌++◌, length, get_or, length-append, ℤ, Option, None, Some, option_map, option_and_then, inl, inr, arith}
use Rattle.std.specs.Prelude.{◌&&◌, ◌||◌, not, nat_lt, All, AllPairs, Any, bytes_eq, codes}
use Rattle.std.specs.List.{list_any}
use Rattle.std.specs.Ordering.{int_eq}
use Rattle.std.proofs.lemmas.Bool.{cases_Bool, and_parts, and_from, false_from_ne_true}
use Rattle.std.proofs.lemmas.Bool.Decides.{Decides-int_eq, nat_tests}
use Rattle.std.proofs.lemmas.List.Folds.{list_any_at, Any-from_list_any}
use Rattle.std.proofs.lemmas.Option.{none-some, same_Some}
use Rattle.std.proofs.lemmas.Slice.Eq.{bytes_eq-Decides}
use Rattle.rr_words.specs.Name.{IsHexName, hex_name_of}
use Rattle.rr_words.proofs.NameLemmas.{IsHexName-from_value, hex_name_of-name}
use Rattle.rr_tiles.specs.Reading.{tile_of}
use Rattle.rr_tiles.specs.Spelling.{SpellsTile}
use Rattle.rr_tiles.specs.Tile.{Face}
use Rattle.rr_tiles.proofs.OptionLemmas.{and_then-some, if-some, map-some}
use Rattle.rr_tiles.proofs.TileLemmas.{tile_of-found, tile_of-spelled}
use Rattle.rr_kit.specs.declared.board.hex.Place.{Place}
use Rattle.rr_kit.specs.declared.board.hex.Colour.{Colour}
use Rattle.rr_kit.specs.declared.board.hex.Colour.TheVariants.{White, Yellow, Green, Brown, Grey, Red}
use Rattle.rr_kit.specs.declared.board.hex.Hex.{Hex}
use Rattle.rr_kit.specs.Board.Lines.{hex_of, hex_with}
use Rattle.rr_kit.specs.Board.Plan.{has_same_name_or_place, is_coloured_right, is_off_board_part, is_red, same_place}
use Rattle.rr_kit.specs.Board.Sound.{IsCoordinate, IsHex}
use Rattle.rr_kit.specs.Board.Spelling.{SpellCost, SpellsHex, colour_word, place_word}
use Rattle.rr_kit.specs.Board.Words.{colour_of, cost_and_tile, place_of}
use Rattle.rr_kit.proofs.BoardLemmas.WordLemmas.{colour_of-found, colour_of-word, cost_and_tile-found, cost_and_tile-spelled, place_of-found, place_of-word}

-- off-board areas stand in red hexes
red : (colour : Colour) → is_red colour ≡ true → colour ≡ Red
red White is = absurd (cc)
red Yellow is = absurd (cc)
red Green is = absurd (cc)
red Brown is = absurd (cc)
red Grey is = absurd (cc)
red Red is = refl

-- what a hex of the reader's is, but for its colour
record IsRead (name place colour : List ℕ) (rest : List (List ℕ)) (hex : Hex) : Type 0 where
  cost_words : List (List ℕ)
  tile_words : List (List ℕ)
  name_is : name ≡ hex.name
  place_is : place ≡ place_word hex.place
  colour_is : colour ≡ colour_word hex.colour
  rest_is : rest ≡ cost_words ++ tile_words
  cost_spelled : SpellCost cost_words hex.cost
  tile_spelled : SpellsTile tile_words hex.tile
  sound_name : IsHexName hex.name
  column : IsCoordinate hex.place.q
  row : IsCoordinate hex.place.r
  cost_to_500 : hex.cost ≤ 500

hex_of-found : (name place colour : List ℕ) (rest : List (List ℕ)) (hex : Hex) → hex_of name place colour rest ≡ Some hex → IsRead name place colour rest hex
hex_of-found name place colour rest hex is =
    let n = and_then-some (λ x. option_and_then (λ p. option_and_then (λ c. option_and_then (hex_with x p c) (cost_and_tile rest)) (colour_of colour)) (place_of place)) (hex_name_of name) hex is in
    let p = and_then-some (λ x. option_and_then (λ c. option_and_then (hex_with n.0 x c) (cost_and_tile rest)) (colour_of colour)) (place_of place) hex n.2 in
    let c = and_then-some (λ x. option_and_then (hex_with n.0 p.0 x) (cost_and_tile rest)) (colour_of colour) hex p.2 in
    let more = and_then-some (hex_with n.0 p.0 c.0) (cost_and_tile rest) hex c.2 in
    let tile = map-some (λ t. record { name = n.0; place = p.0; colour = c.0; cost = more.0.0; tile = t }) (tile_of more.0.1) hex more.2 in
    let named = IsHexName-from_value name n.0 n.1 in
    let placed = place_of-found place p.0 p.1 in
    let costs = cost_and_tile-found rest more.0 more.1 in
    subst (IsRead name place colour rest) tile.2 (record {
      cost_words = costs.cost_words;
      tile_words = more.0.1;
      name_is = sym named.1;
      place_is = placed.word_is;
      colour_is = colour_of-found colour c.0 c.1;
      rest_is = costs.words_are;
      cost_spelled = costs.cost_spelled;
      tile_spelled = tile_of-found more.0.1 tile.0 tile.1;
      sound_name = subst IsHexName (sym named.1) named.0;
      column = placed.column;
      row = placed.row;
      cost_to_500 = costs.to_500;
    })

-- a hex that the reader gives, and whose colour is right, is spelled
pub SpellsHex-read : (name place colour : List ℕ) (rest : List (List ℕ)) (hex : Hex) → hex_of name place colour rest ≡ Some hex → is_coloured_right hex ≡ true → SpellsHex (codes "hex" ∷ name ∷ place ∷ colour ∷ rest) hex
SpellsHex-read name place colour rest hex is right =
    let read = hex_of-found name place colour rest hex is in
    record {
      cost_words = read.cost_words;
      tile_words = read.tile_words;
      words_are = ap (λ w. codes "hex" ∷ w ∷ place ∷ colour ∷ rest) read.name_is ∙ ap (λ w. codes "hex" ∷ hex.name ∷ w ∷ colour ∷ rest) read.place_is ∙ ap (λ w. codes "hex" ∷ hex.name ∷ place_word hex.place ∷ w ∷ rest) read.colour_is
          ∙ ap (λ ws. codes "hex" ∷ hex.name ∷ place_word hex.place ∷ colour_word hex.colour ∷ ws) read.rest_is;
      cost_spelled = read.cost_spelled;
      tile_spelled = read.tile_spelled;
      is_hex = record {
        sound_name = read.sound_name;
        column = read.column;
        row = read.row;
        cost_to_500 = read.cost_to_500;
        sound_tile = read.tile_spelled.is_tile;
        off_board_in_red = λ there. red hex.colour (grind (arith, nat_tests));
      };
    }

-- what is spelled the reader gives
pub hex_of-spelled : (hex : Hex) (cost_words tile_words : List (List ℕ)) → SpellCost cost_words hex.cost → SpellsTile tile_words hex.tile → IsHex hex → hex_of hex.name (place_word hex.place) (colour_word hex.colour) (cost_words ++ tile_words) ≡ Some hex
hex_of-spelled hex cost_words tile_words cost tile sound =
    rw (hex_name_of-name hex.name sound.sound_name, place_of-word hex.place.q hex.place.r sound.column sound.row, colour_of-word hex.colour, cost_and_tile-spelled cost_words tile_words hex.cost hex.tile cost sound.cost_to_500 tile, tile_of-spelled tile_words hex.tile tile) refl

pub coloured_right : (hex : Hex) → IsHex hex → is_coloured_right hex ≡ true
coloured_right hex sound =
    elim (cases_Bool (list_any is_off_board_part hex.tile.parts)) [
      | inl there ↦ let colour = ap is_red (sound.off_board_in_red there) in rw (there, colour) refl
      | inr none ↦ rw none (grind (arith, nat_tests))
    ]

-- places
place_from : (place other : Place) → place.q ≡ other.q → place.r ≡ other.r → place ≡ other
place_from place other column row =
    let of : ℤ → ℤ → Place = λ q r. record { q = q; r = r } in
    ap (λ (q : ℤ). of q place.r) column ∙ ap (λ (r : ℤ). of other.q r) row

pub same_place-one : (place other : Place) → same_place place other ≡ true → place ≡ other
same_place-one place other same =
    let both = and_parts (int_eq place.q other.q) (int_eq place.r other.r) same in
    place_from place other ((Decides-int_eq place.q other.q).0 both.0) ((Decides-int_eq place.r other.r).0 both.1)

pub same_place-self : (place other : Place) → place ≡ other → same_place place other ≡ true
same_place-self place other same =
    and_from (int_eq place.q other.q) (int_eq place.r other.r) ((Decides-int_eq place.q other.q).1 (ap (λ p. p.q) same)) ((Decides-int_eq place.r other.r).1 (ap (λ p. p.r) same))
