-- The words of a hex's line are those of the hex that they spell.
use Rattle.std.proofs.Common.{◌≡◌, ℕ, ◌+◌, ◌^◌, ◌<◌, ◌≤◌, zero, suc, refl, sym, ap, ◌∙◌, subst, Bool, true, false, List, [], ◌∷◌, ◌++◌, length, map, filter_map, ℤ, pos, negsuc, neg_ℤ, Option, None, Some, option_map, option_and_then, inl, inr, arith, add-one, if◌then◌else◌}
use Rattle.std.specs.Prelude.{◌⊎◌, ◌==◌, ◌&&◌, All, bytes_eq, codes, decimal}
use Rattle.std.specs.Char.{is_ascii_digit}
use Rattle.std.proofs.lemmas.Bool.{cases_Bool, and_parts, eqb-true, eq-eqb, ne_eqb}
use Rattle.std.proofs.lemmas.Bool.Decides.{nat_tests}
use Rattle.std.proofs.lemmas.List.Elements.{All-cons, All-head}
use Rattle.std.proofs.lemmas.Option.{none-some, same_Some}
use Rattle.std.proofs.lemmas.Slice.Eq.{bytes_eq-Decides}
use Rattle.rr_words.specs.Numeral.{small_number_of}
use Rattle.rr_words.proofs.NumeralLemmas.{small_number_of-decimal}
use Rattle.rr_tiles.specs.Reading.{cut_of}
use Rattle.rr_tiles.specs.Spelling.{SpellsTile}
use Rattle.rr_tiles.specs.Tile.{Face}
use Rattle.rr_tiles.proofs.CentreLemmas.{cut_of-found, cut_of-joined, decimal-without, small_number-found}
use Rattle.rr_tiles.proofs.FirstWordLemmas.{are_digits, tile-no_co}
use Rattle.rr_tiles.proofs.OptionLemmas.{and_then-some, if-some, map-some}
use Rattle.rr_kit.specs.declared.board.hex.Place.{Place}
use Rattle.rr_kit.specs.declared.board.hex.Colour.{Colour}
use Rattle.rr_kit.specs.declared.board.hex.Colour.TheVariants.{White, Yellow, Green, Brown, Grey, Red}
use Rattle.rr_kit.specs.Board.Sound.{IsCoordinate}
use Rattle.rr_kit.specs.Board.Spelling.{SpellCost, colour_word, coordinate_word, cost_word, place_word}
use Rattle.rr_kit.specs.Board.Words.{behind_cost, behind_st, colour_of, coordinate_of, cost_and_tile, cost_in, place_in, place_of}

-- a word that is compared with one name after another is one of them
pub name-or_rest : {X : Type 0} (word name : List ℕ) (x y : X) (rest : Option X) → (if bytes_eq word name then Some x else rest) ≡ Some y → ((word ≡ name) × (x ≡ y)) ⊎ (rest ≡ Some y)
name-or_rest word name x y rest is =
    elim (cases_Bool (bytes_eq word name)) [
      | inl same ↦ inl ((bytes_eq-Decides word name).0 same, same_Some x y (rw same at is))
      | inr other ↦ inr (rw other at is)
    ]

-- colours
pub colour_of-found : (word : List ℕ) (colour : Colour) → colour_of word ≡ Some colour → word ≡ colour_word colour
colour_of-found word colour is =
    elim (name-or_rest word (codes "white") White colour _ is) [
      | inl p ↦ p.0 ∙ ap colour_word p.1
      | inr r1 ↦
          elim (name-or_rest word (codes "yellow") Yellow colour _ r1) [
            | inl p ↦ p.0 ∙ ap colour_word p.1
            | inr r2 ↦
                elim (name-or_rest word (codes "green") Green colour _ r2) [
                  | inl p ↦ p.0 ∙ ap colour_word p.1
                  | inr r3 ↦
                      elim (name-or_rest word (codes "brown") Brown colour _ r3) [
                        | inl p ↦ p.0 ∙ ap colour_word p.1
                        | inr r4 ↦
                            elim (name-or_rest word (codes "grey") Grey colour _ r4) [
                              | inl p ↦ p.0 ∙ ap colour_word p.1
                              | inr r5 ↦
                                  elim (name-or_rest word (codes "red") Red colour _ r5) [
                                    | inl p ↦ p.0 ∙ ap colour_word p.1
                                    | inr r6 ↦
                                        absurd (none-some colour r6)
                                  ]
                            ]
                      ]
                ]
          ]
    ]

pub colour_of-word : (colour : Colour) → colour_of (colour_word colour) ≡ Some colour
colour_of-word White = refl
colour_of-word Yellow = refl
colour_of-word Green = refl
colour_of-word Brown = refl
colour_of-word Grey = refl
colour_of-word Red = refl

-- coordinates
record IsCoordinateWord (word : List ℕ) (n : ℤ) : Type 0 where
  word_is : word ≡ coordinate_word n
  sound : IsCoordinate n

below_0 : (rest : List ℕ) (n : ℕ) → rest ≡ decimal n → 1 ≤ n → n ≤ 50 → IsCoordinateWord (45 ∷ rest) (neg_ℤ (pos n))
below_0 rest zero digits from_1 to_50 = absurd (omega arith)
below_0 rest (suc n) digits from_1 to_50 =
    let next : suc n ≡ n + 1 = omega arith in
    record { word_is = ap (λ w. 45 ∷ w) (digits ∙ ap decimal next); sound = omega arith }

coordinate_of-found : (word : List ℕ) (n : ℤ) → coordinate_of word ≡ Some n → IsCoordinateWord word n
coordinate_of-found [] n is = absurd (none-some n is)
coordinate_of-found (first ∷ rest) n is =
    elim (cases_Bool (first == 45)) [
      | inl minus ↦
          let m = map-some (λ k. neg_ℤ (pos k)) (small_number_of rest 1 50) n (rw minus at is) in
          let found = small_number-found rest 1 50 m.0 m.1 in
          let word = below_0 rest m.0 found.digits found.from_low found.to_high in
          subst (λ c. IsCoordinateWord (c ∷ rest) n) (sym (eqb-true first 45 minus)) (subst (IsCoordinateWord (45 ∷ rest)) m.2 word)
      | inr digit ↦
          let m = map-some (λ k. pos k) (small_number_of (first ∷ rest) 0 50) n (rw digit at is) in
          let found = small_number-found (first ∷ rest) 0 50 m.0 m.1 in
          subst (IsCoordinateWord (first ∷ rest)) m.2 (record { word_is = found.digits; sound = found.to_high })
    ]

digit-no_minus : (c : ℕ) → is_ascii_digit c ≡ true → (c == 45) ≡ false
digit-no_minus c digit = grind (arith, nat_tests)

digit-no_comma : (c : ℕ) → is_ascii_digit c ≡ true → (c == 44) ≡ false
digit-no_comma c digit = grind (arith, nat_tests)

coordinate_of-digits : (word : List ℕ) (n : ℕ) → All (λ c. is_ascii_digit c ≡ true) word → small_number_of word 0 50 ≡ Some n → coordinate_of word ≡ Some (pos n)
coordinate_of-digits [] n digits is = absurd (none-some n is)
coordinate_of-digits (first ∷ rest) n digits is =
    rw (digit-no_minus first (All-head (λ c. is_ascii_digit c ≡ true) first rest digits), is) refl

coordinate_of-word : (n : ℤ) → IsCoordinate n → coordinate_of (coordinate_word n) ≡ Some n
coordinate_of-word (pos n) sound =
    let small : n ≤ 50 = sound in
    coordinate_of-digits (decimal n) n (are_digits n (omega arith)) (small_number_of-decimal n 0 50 (omega arith) (omega arith) small)
coordinate_of-word (negsuc n) sound =
    let small : n + 1 ≤ 50 = sound in
    let next : n + 1 ≡ suc n = omega arith in
    rw (small_number_of-decimal (n + 1) 1 50 (omega arith) (omega arith) small) (ap (λ k. Some (neg_ℤ (pos k))) next)

coordinate-no_comma : (n : ℤ) → IsCoordinate n → All (λ c. (c == 44) ≡ false) (coordinate_word n)
coordinate-no_comma (pos n) sound = let small : n ≤ 50 = sound in decimal-without 44 n (omega arith) digit-no_comma
coordinate-no_comma (negsuc n) sound = let small : n + 1 ≤ 50 = sound in All-cons (λ c. (c == 44) ≡ false) 45 (decimal (n + 1)) refl (decimal-without 44 (n + 1) (omega arith) digit-no_comma)

-- places
pub record IsPlaceWord (word : List ℕ) (place : Place) : Type 0 where
  pub word_is : word ≡ place_word place
  pub column : IsCoordinate place.q
  pub row : IsCoordinate place.r

pub place_of-found : (word : List ℕ) (place : Place) → place_of word ≡ Some place → IsPlaceWord word place
place_of-found word place is =
    let parts = and_then-some place_in (cut_of 44 word) place is in
    let q = and_then-some (λ x. option_map (λ y. record { q = x; r = y }) (coordinate_of parts.0.1)) (coordinate_of parts.0.0) place parts.2 in
    let r = map-some (λ y. record { q = q.0; r = y }) (coordinate_of parts.0.1) place q.2 in
    let first = coordinate_of-found parts.0.0 q.0 q.1 in
    let last = coordinate_of-found parts.0.1 r.0 r.1 in
    subst (IsPlaceWord word) r.2 (record {
      word_is = cut_of-found 44 word parts.0 parts.1 ∙ ap (λ w. w ++ 44 ∷ parts.0.1) first.word_is ∙ ap (λ w. coordinate_word q.0 ++ 44 ∷ w) last.word_is;
      column = first.sound;
      row = last.sound;
    })

pub place_of-word : (q r : ℤ) → IsCoordinate q → IsCoordinate r → place_of (place_word (record { q = q; r = r })) ≡ Some (record { q = q; r = r })
place_of-word q r column row =
    rw (cut_of-joined 44 (coordinate_word q) (coordinate_word r) (coordinate-no_comma q column), coordinate_of-word q column, coordinate_of-word r row) refl

-- costs
behind_st-found : (word rest : List ℕ) → behind_st word ≡ Some rest → word ≡ 115 ∷ 116 ∷ 61 ∷ rest
behind_st-found [] rest is = absurd (none-some rest is)
behind_st-found (s ∷ []) rest is = absurd (none-some rest is)
behind_st-found (s ∷ t ∷ []) rest is = absurd (none-some rest is)
behind_st-found (s ∷ t ∷ sign ∷ behind) rest is =
    let kept = if-some (s == 115 && (t == 116 && sign == 61)) (Some behind) rest is in
    let first = and_parts (s == 115) (t == 116 && sign == 61) kept.0 in
    let others = and_parts (t == 116) (sign == 61) first.1 in
    let same : behind ≡ rest = same_Some behind rest kept.1 in
    ap (λ c. c ∷ t ∷ sign ∷ behind) (eqb-true s 115 first.0) ∙ ap (λ c. 115 ∷ c ∷ sign ∷ behind) (eqb-true t 116 others.0) ∙ ap (λ c. 115 ∷ 116 ∷ c ∷ behind) (eqb-true sign 61 others.1) ∙ ap (λ w. 115 ∷ 116 ∷ 61 ∷ w) same

behind_cost-found : (word rest : List ℕ) → behind_cost word ≡ Some rest → word ≡ codes "cost=" ++ rest
behind_cost-found [] rest is = absurd (none-some rest is)
behind_cost-found (c ∷ []) rest is = absurd (none-some rest is)
behind_cost-found (c ∷ o ∷ behind) rest is =
    let kept = if-some (c == 99 && o == 111) (behind_st behind) rest is in
    let both = and_parts (c == 99) (o == 111) kept.0 in
    ap (λ x. x ∷ o ∷ behind) (eqb-true c 99 both.0) ∙ ap (λ x. 99 ∷ x ∷ behind) (eqb-true o 111 both.1) ∙ ap (λ w. 99 ∷ 111 ∷ w) (behind_st-found behind rest kept.1)

-- the words of a cost and of a tile
pub record AreCostAndTile (words : List (List ℕ)) (read : ℕ × List (List ℕ)) : Type 0 where
  pub cost_words : List (List ℕ)
  pub words_are : words ≡ cost_words ++ read.1
  pub cost_spelled : SpellCost cost_words read.0
  pub to_500 : read.0 ≤ 500

without_cost : (words : List (List ℕ)) → AreCostAndTile words (0, words)
without_cost words = record { cost_words = []; words_are = refl; cost_spelled = inr (refl, refl); to_500 = omega arith }

cost_in-found : (rest : List (List ℕ)) (word : List ℕ) (digits : Option (List ℕ)) (read : ℕ × List (List ℕ)) → behind_cost word ≡ digits → cost_in rest word digits ≡ Some read → AreCostAndTile (word ∷ rest) read
cost_in-found rest word None read behind is = subst (AreCostAndTile (word ∷ rest)) (same_Some _ read is) (without_cost (word ∷ rest))
cost_in-found rest word (Some digits) read behind is =
    let cost = map-some (λ n. (n, rest)) (small_number_of digits 0 500) read is in
    let found = small_number-found digits 0 500 cost.0 cost.1 in
    subst (AreCostAndTile (word ∷ rest)) cost.2 (record {
      cost_words = word ∷ [];
      words_are = refl;
      cost_spelled = inl (ap (λ w. w ∷ []) (behind_cost-found word digits behind ∙ ap (λ d. codes "cost=" ++ d) found.digits));
      to_500 = found.to_high;
    })

pub cost_and_tile-found : (words : List (List ℕ)) (read : ℕ × List (List ℕ)) → cost_and_tile words ≡ Some read → AreCostAndTile words read
cost_and_tile-found [] read is = subst (AreCostAndTile []) (same_Some _ read is) (without_cost [])
cost_and_tile-found (word ∷ rest) read is = cost_in-found rest word (behind_cost word) read refl is

-- no word of a tile begins as that of a cost does
tile-no_cost : (words : List (List ℕ)) (face : Face) → SpellsTile words face → cost_and_tile words ≡ Some (0, words)
tile-no_cost [] face tile = refl
tile-no_cost ([] ∷ rest) face tile = refl
tile-no_cost ((c ∷ []) ∷ rest) face tile = refl
tile-no_cost ((c ∷ o ∷ behind) ∷ rest) face tile =
    elim (cases_Bool (c == 99 && o == 111)) [
      | inl co ↦
          let both = and_parts (c == 99) (o == 111) co in
          absurd (tile-no_co behind rest face (subst (λ x. SpellsTile ((99 ∷ x ∷ behind) ∷ rest) face) (eqb-true o 111 both.1) (subst (λ x. SpellsTile ((x ∷ o ∷ behind) ∷ rest) face) (eqb-true c 99 both.0) tile)))
      | inr none ↦ rw none refl
    ]

with_cost : (cost : ℕ) (tile_words : List (List ℕ)) → cost ≤ 500 → cost_and_tile (cost_word cost ∷ tile_words) ≡ Some (cost, tile_words)
with_cost cost tile_words small =
    let few : cost < 10 ^ 10 = omega arith in
    rw (small_number_of-decimal cost 0 500 few (omega arith) small) refl

pub cost_and_tile-spelled : (cost_words tile_words : List (List ℕ)) (cost : ℕ) (face : Face) → SpellCost cost_words cost → cost ≤ 500 → SpellsTile tile_words face → cost_and_tile (cost_words ++ tile_words) ≡ Some (cost, tile_words)
cost_and_tile-spelled cost_words tile_words cost face spelled small tile =
    elim spelled [
      | inl named ↦ ap (λ words. cost_and_tile (words ++ tile_words)) named ∙ with_cost cost tile_words small
      | inr none ↦
          ap (λ words. cost_and_tile (words ++ tile_words)) none.0
          ∙ tile-no_cost tile_words face tile
          ∙ ap (λ n. Some (n, tile_words)) (sym none.1)
    ]
