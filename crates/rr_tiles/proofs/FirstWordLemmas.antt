-- No word of a tile begins with `co`.
use Rattle.std.proofs.Common.{◌≡◌, ℕ, ◌+◌, ◌^◌, ◌<◌, ◌≤◌, refl, sym, ap, ◌∙◌, subst, true, false, List, [], ◌∷◌, ◌++◌, map, filter_map, get_or, arith}
use Rattle.std.specs.Prelude.{◌==◌, All, decimal}
use Rattle.std.specs.Char.{is_ascii_digit}
use Rattle.std.proofs.lemmas.Bool.Decides.{nat_tests}
use Rattle.std.proofs.lemmas.Fmt.{digits_decimal}
use Rattle.std.proofs.lemmas.List.Elements.{All-head}
use Rattle.std.proofs.lemmas.List.Sums.{AllPass-from_list_all}
use Rattle.rr_words.proofs.NumeralLemmas.{digits_model}
use Rattle.rr_tiles.specs.Sound.{IsPart}
use Rattle.rr_tiles.specs.Spelling.{IsElement, SpellsTile, edges_text, part_in, word_of}
use Rattle.rr_tiles.specs.Tile.{Face}
use Rattle.rr_tiles.specs.declared.element.Element.{Element}
use Rattle.rr_tiles.specs.declared.element.Element.TheVariants.{Part as OfPart, Label as OfLabel}
use Rattle.rr_tiles.specs.declared.part.Kind.{Kind}
use Rattle.rr_tiles.specs.declared.part.Kind.TheVariants.{Town, City, OffBoard}
use Rattle.rr_tiles.specs.declared.part.Part.TheVariants.{Track as OfTrack, Centre as OfCentre}

-- the digits of a small number
pub are_digits : (n : ℕ) → n ≤ 990 → All (λ c. is_ascii_digit c ≡ true) (decimal n)
are_digits n small =
    let wide : n < 2 ^ 64 = omega arith in
    AllPass-from_list_all is_ascii_digit (decimal n) (digits_decimal digits_model n wide)

digit-no_o : (c : ℕ) → is_ascii_digit c ≡ true → c ≡ 111 → ⊥
digit-no_o c digit same = grind (arith, nat_tests)

city-no_co : (digits mark rest word : List ℕ) → All (λ c. is_ascii_digit c ≡ true) digits → 99 ∷ 111 ∷ word ≡ 99 ∷ (digits ++ 47 ∷ mark) ++ rest → ⊥
city-no_co [] mark rest word all same = absurd (omega (arith, ap (λ w. get_or w 1 0) same))
city-no_co (first ∷ more) mark rest word all same = digit-no_o first (All-head (λ c. is_ascii_digit c ≡ true) first more all) (sym (ap (λ w. get_or w 1 0) same))

centre-no_co : (kind : Kind) (value : ℕ) (edges word : List ℕ) → value ≤ 990 → 99 ∷ 111 ∷ word ≡ word_of (OfPart (OfCentre (record { kind = kind; value = value; edges = edges }))) → ⊥
centre-no_co Town value edges word small same = absurd (omega (arith, ap (λ w. get_or w 0 0) same))
centre-no_co (City slots) value edges word small same = city-no_co (decimal value) (decimal slots) (58 ∷ edges_text edges) word (are_digits value small) same
centre-no_co (OffBoard later) value edges word small same = absurd (omega (arith, ap (λ w. get_or w 0 0) same))

element-no_co : (element : Element) (word : List ℕ) → IsElement element → 99 ∷ 111 ∷ word ≡ word_of element → ⊥
element-no_co (OfPart (OfTrack track)) word sound same = absurd (omega (arith, ap (λ w. get_or w 1 0) same))
element-no_co (OfPart (OfCentre centre)) word sound same = centre-no_co centre.kind centre.value centre.edges word sound.sound_value.to_990 same
element-no_co (OfLabel label) word sound same = absurd (omega (arith, ap (λ w. get_or w 0 0) same))

elements-no_co : (elements : List Element) (face : Face) (word : List ℕ) (rest : List (List ℕ)) → face.parts ≡ filter_map part_in elements → All IsPart face.parts → (99 ∷ 111 ∷ word) ∷ rest ≡ map word_of elements → ⊥
elements-no_co [] face word rest parts sound same = absurd (cc)
elements-no_co (OfPart part ∷ more) face word rest parts sound same =
    let all : All IsPart (part ∷ filter_map part_in more) = subst (All IsPart) parts sound in
    let one : 99 ∷ 111 ∷ word ≡ word_of (OfPart part) = ap (λ ws. get_or ws 0 []) same in
    element-no_co (OfPart part) word (All-head IsPart part (filter_map part_in more) all) one
elements-no_co (OfLabel label ∷ more) face word rest parts sound same = absurd (omega (arith, ap (λ ws. get_or (get_or ws 0 []) 0 0) same))

pub tile-no_co : (word : List ℕ) (rest : List (List ℕ)) (face : Face) → SpellsTile ((99 ∷ 111 ∷ word) ∷ rest) face → ⊥
tile-no_co word rest face spelled = elements-no_co spelled.elements face word rest spelled.parts_are spelled.is_tile.sound_parts spelled.words_are
