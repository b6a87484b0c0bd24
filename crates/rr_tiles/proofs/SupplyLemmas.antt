-- The supplies that lines spell.
use Rattle.std.proofs.Common.{◌≡◌, ℕ, ◌<◌, ◌≤◌, refl, sym, ap, ◌∙◌, subst, true, false, List, [], ◌∷◌, ◌++◌, length, get_or, append-nil, append_assoc, length-append, Some, option_map, option_and_then, inl, inr, arith, decimal}
use Rattle.std.specs.Prelude.{AllPairs, ◌==◌, bytes_eq, codes}
use Rattle.std.specs.List.{AllZip}
use Rattle.std.proofs.Math.Seq.{get_or-append_seam}
use Rattle.std.proofs.lemmas.Bool.{cases_Bool, eqb-true, eq-eqb, false_from_ne_true}
use Rattle.std.proofs.lemmas.List.{get_or_append_left}
use Rattle.std.proofs.lemmas.List.Elements.{All-nil, All-push}
use Rattle.std.proofs.lemmas.List.Folds.{list_any_at, Any-from_list_any}
use Rattle.std.proofs.lemmas.List.Quantifiers.{all_pairs_push}
use Rattle.std.proofs.lemmas.Option.{none-some, same_Some}
use Rattle.std.proofs.lemmas.Slice.Eq.{bytes_eq-Decides}
use Rattle.rr_words.specs.Numeral.{small_number_of}
use Rattle.rr_words.proofs.NumeralLemmas.{small_number_of-decimal}
use Rattle.rr_tiles.specs.Each.{added}
use Rattle.rr_tiles.specs.Manifest.{HaveDifferentNumbers, IsManifest, IsSupply, SpellsSupply, colour_word}
use Rattle.rr_tiles.specs.Reading.{tile_of}
use Rattle.rr_tiles.specs.Supply.{add_line, colour_of, count_of, has_number, has_off_board, head_of, supplies_of, supply_of, supply_with, with_supply}
use Rattle.rr_tiles.specs.declared.supply.Colour.{Colour}
use Rattle.rr_tiles.specs.declared.supply.Colour.TheVariants.{Yellow, Green, Brown}
use Rattle.rr_tiles.specs.declared.supply.Supply.{Supply}
use Rattle.rr_tiles.proofs.CentreLemmas.{small_number-found}
use Rattle.rr_tiles.proofs.EachLemmas.{added-cons, added-kept, added-none}
use Rattle.rr_tiles.proofs.EdgeLemmas.{AllPairs-none}
use Rattle.rr_tiles.proofs.OptionLemmas.{and_then-some, if-some, map-some, unless-some}
use Rattle.rr_tiles.proofs.TileLemmas.{tile_of-found, tile_of-spelled}

-- words and colours
colour_of-found : (word : List ℕ) (colour : Colour) → colour_of word ≡ Some colour → word ≡ colour_word colour
colour_of-found word colour is =
    elim (cases_Bool (bytes_eq word (codes "yellow"))) [
      | inl yellow ↦
          let same : Yellow ≡ colour = same_Some Yellow colour (rw yellow at is) in
          (bytes_eq-Decides word (codes "yellow")).0 yellow ∙ ap colour_word same
      | inr not_yellow ↦ elim (cases_Bool (bytes_eq word (codes "green"))) [
        | inl green ↦
            let same : Green ≡ colour = same_Some Green colour (rw (not_yellow, green) at is) in
            (bytes_eq-Decides word (codes "green")).0 green ∙ ap colour_word same
        | inr not_green ↦ elim (cases_Bool (bytes_eq word (codes "brown"))) [
          | inl brown ↦
              let same : Brown ≡ colour = same_Some Brown colour (rw (not_yellow, not_green, brown) at is) in
              (bytes_eq-Decides word (codes "brown")).0 brown ∙ ap colour_word same
          | inr not_brown ↦ absurd (none-some colour (rw (not_yellow, not_green, not_brown) at is))
        ]
      ]
    ]

colour_of-word : (colour : Colour) → colour_of (colour_word colour) ≡ Some colour
colour_of-word Yellow = refl
colour_of-word Green = refl
colour_of-word Brown = refl

record IsCount (word : List ℕ) (count : ℕ) : Type 0 where
  word_is : word ≡ 120 ∷ decimal count
  from_1 : 1 ≤ count
  to_50 : count ≤ 50

count_of-found : (word : List ℕ) (count : ℕ) → count_of word ≡ Some count → IsCount word count
count_of-found [] count is = absurd (cc)
count_of-found (mark ∷ digits) count is =
    let kept = if-some (mark == 120) (small_number_of digits 1 50) count is in
    let found = small_number-found digits 1 50 count kept.1 in
    record { word_is = ap (λ m. m ∷ digits) (eqb-true mark 120 kept.0) ∙ ap (λ d. 120 ∷ d) found.digits; from_1 = found.from_low; to_50 = found.to_high }

-- the first three words of a line
record IsHead (colour number count : List ℕ) (head : Colour × ℕ × ℕ) : Type 0 where
  colour_is : colour ≡ colour_word head.0
  number_is : number ≡ decimal head.1
  from_1 : 1 ≤ head.1
  to_999 : head.1 ≤ 999
  count_is : IsCount count head.2

head_of-found : (colour number count : List ℕ) (head : Colour × ℕ × ℕ) → head_of colour number count ≡ Some head → IsHead colour number count head
head_of-found colour number count head is =
    let c = and_then-some (λ x. option_and_then (λ n. option_map (λ k. (x, n, k)) (count_of count)) (small_number_of number 1 999)) (colour_of colour) head is in
    let n = and_then-some (λ x. option_map (λ k. (c.0, x, k)) (count_of count)) (small_number_of number 1 999) head c.2 in
    let k = map-some (λ x. (c.0, n.0, x)) (count_of count) head n.2 in
    let found = small_number-found number 1 999 n.0 n.1 in
    subst (IsHead colour number count) k.2 (record {
      colour_is = colour_of-found colour c.0 c.1;
      number_is = found.digits;
      from_1 = found.from_low;
      to_999 = found.to_high;
      count_is = count_of-found count k.0 k.1;
    })

-- a line spells what is read from it
pub supply_of-found : (words : List (List ℕ)) (supply : Supply) → supply_of words ≡ Some supply → SpellsSupply words supply
supply_of-found [] supply is = absurd (cc)
supply_of-found (colour ∷ []) supply is = absurd (cc)
supply_of-found (colour ∷ number ∷ []) supply is = absurd (cc)
supply_of-found (colour ∷ number ∷ count ∷ text) supply is =
    let head = and_then-some (λ h. option_and_then (supply_with h) (tile_of text)) (head_of colour number count) supply is in
    let tile = and_then-some (supply_with head.0) (tile_of text) supply head.2 in
    let kept = unless-some (has_off_board tile.0.parts) (record { colour = head.0.0; number = head.0.1; count = head.0.2; tile = tile.0 }) supply tile.2 in
    let found = head_of-found colour number count head.0 head.1 in
    subst (SpellsSupply (colour ∷ number ∷ count ∷ text)) kept.1 (record {
      tile_words = text;
      words_are = ap (λ w. w ∷ number ∷ count ∷ text) found.colour_is ∙ ap (λ w. colour_word head.0.0 ∷ w ∷ count ∷ text) found.number_is ∙ ap (λ w. colour_word head.0.0 ∷ decimal head.0.1 ∷ w ∷ text) found.count_is.word_is;
      tile_spelled = tile_of-found text tile.0 tile.1;
      is_supply = record {
        number_from_1 = found.from_1;
        number_to_999 = found.to_999;
        count_from_1 = found.count_is.from_1;
        count_to_50 = found.count_is.to_50;
        sound_tile = (tile_of-found text tile.0 tile.1).is_tile;
        no_off_board = kept.0;
      };
    })

-- what a line spells is read from it
pub supply_of-spelled : (words : List (List ℕ)) (supply : Supply) → SpellsSupply words supply → supply_of words ≡ Some supply
supply_of-spelled words supply spelled =
    let sound = spelled.is_supply in
    let number : small_number_of (decimal supply.number) 1 999 ≡ Some supply.number = small_number_of-decimal supply.number 1 999 (omega (arith, sound.number_to_999)) sound.number_from_1 sound.number_to_999 in
    let count : small_number_of (decimal supply.count) 1 50 ≡ Some supply.count = small_number_of-decimal supply.count 1 50 (omega (arith, sound.count_to_50)) sound.count_from_1 sound.count_to_50 in
    let head : head_of (colour_word supply.colour) (decimal supply.number) (120 ∷ decimal supply.count) ≡ Some (supply.colour, supply.number, supply.count) = rw (colour_of-word supply.colour, number, count) refl in
    ap supply_of spelled.words_are
    ∙ ap (option_and_then (λ h. option_and_then (supply_with h) (tile_of spelled.tile_words))) head
    ∙ ap (option_and_then (supply_with (supply.colour, supply.number, supply.count))) (tile_of-spelled spelled.tile_words supply.tile spelled.tile_spelled)
    ∙ rw sound.no_off_board refl

-- lines
pub record AreRead (lines : List (List (List ℕ))) (supplies : List Supply) : Type 0 where
  pub each_line : AllZip SpellsSupply lines supplies
  pub is_manifest : IsManifest supplies

AllZip-more : {A B : Type 0} (R : A → B → Type 0) (xs : List A) (ys : List B) (x : A) (y : B) → AllZip R xs ys → R x y → AllZip R (xs ++ x ∷ []) (ys ++ y ∷ [])
AllZip-more R [] [] x y all one = (one, tt)
AllZip-more R [] (b ∷ ys) x y all one = absurd all
AllZip-more R (a ∷ xs) [] x y all one = absurd all
AllZip-more R (a ∷ xs) (b ∷ ys) x y all one = (all.0, AllZip-more R xs ys x y all.1 one)

pub IsManifest-none : IsManifest []
IsManifest-none = record { sound_supplies = All-nil IsSupply; different = AllPairs-none HaveDifferentNumbers }

pub IsManifest-push : (supplies : List Supply) (supply : Supply) → IsManifest supplies → IsSupply supply → has_number supplies supply.number ≡ false → IsManifest (supplies ++ supply ∷ [])
IsManifest-push supplies supply manifest sound new = record {
  sound_supplies = All-push IsSupply supplies supply manifest.sound_supplies sound;
  different = all_pairs_push HaveDifferentNumbers supplies supply manifest.different (λ k d within same.
      let there : has_number supplies supply.number ≡ true = list_any_at (λ other. other.number == supply.number) supplies k d within (eq-eqb _ supply.number same) in
      cc);
}

AreRead-next : (supplies next : List Supply) (lines : List (List (List ℕ))) (words : List (List ℕ)) → AreRead lines supplies → add_line supplies words ≡ Some next → AreRead (lines ++ words ∷ []) next
AreRead-next supplies next lines words so_far is =
    let one = and_then-some (with_supply supplies) (supply_of words) next is in
    let kept = unless-some (has_number supplies one.0.number) (supplies ++ one.0 ∷ []) next one.2 in
    let found = supply_of-found words one.0 one.1 in
    subst (AreRead (lines ++ words ∷ [])) kept.1 (record {
      each_line = AllZip-more SpellsSupply lines supplies words one.0 so_far.each_line found;
      is_manifest = IsManifest-push supplies one.0 so_far.is_manifest found.is_supply kept.0;
    })

pub supplies_of-found : (lines : List (List (List ℕ))) (supplies : List Supply) → supplies_of lines ≡ Some supplies → AreRead lines supplies
supplies_of-found lines supplies is =
    added-kept add_line (λ so_far front. AreRead front so_far) [] (record { each_line = tt; is_manifest = IsManifest-none }) AreRead-next lines supplies is

has_number-new : (front : List Supply) (supply : Supply) (rest : List Supply) → AllPairs HaveDifferentNumbers (front ++ supply ∷ rest) → has_number front supply.number ≡ false
has_number-new front supply rest different =
    false_from_ne_true (has_number front supply.number) (λ found.
    let at = Any-from_list_any (λ other. other.number == supply.number) front found in
    let last : length front < length (front ++ supply ∷ rest) = omega (arith, length-append front (supply ∷ rest)) in
    let pair : HaveDifferentNumbers (get_or (front ++ supply ∷ rest) at.0 at.1) (get_or (front ++ supply ∷ rest) (length front) at.1) = different at.0 (length front) at.1 at.2 last in
    let apart : HaveDifferentNumbers (get_or front at.0 at.1) supply = rw (get_or_append_left front (supply ∷ rest) at.1 at.0 at.2, get_or-append_seam front supply rest at.1) at pair in
    apart (ap (λ s. s.number) at.3 ∙ eqb-true at.1.number supply.number at.4))

supplies_of-again : (front : List Supply) (lines : List (List (List ℕ))) (rest : List Supply) → AllZip SpellsSupply lines rest → IsManifest (front ++ rest) → added add_line front lines ≡ Some (front ++ rest)
supplies_of-again front [] [] each manifest = added-none add_line front ∙ ap (λ all. Some all) (sym (append-nil front))
supplies_of-again front [] (supply ∷ rest) each manifest = absurd each
supplies_of-again front (words ∷ lines) [] each manifest = absurd each
supplies_of-again front (words ∷ lines) (supply ∷ rest) each manifest =
    let step : add_line front words ≡ Some (front ++ supply ∷ []) = rw (supply_of-spelled words supply each.0, has_number-new front supply rest manifest.different) refl in
    let longer : (front ++ supply ∷ []) ++ rest ≡ front ++ supply ∷ rest = append_assoc front (supply ∷ []) rest in
    added-cons add_line front (front ++ supply ∷ []) words lines step
    ∙ supplies_of-again (front ++ supply ∷ []) lines rest each.1 (subst IsManifest (sym longer) manifest)
    ∙ ap (λ all. Some all) longer

pub supplies_of-read : (lines : List (List (List ℕ))) (supplies : List Supply) → AreRead lines supplies → supplies_of lines ≡ Some supplies
supplies_of-read lines supplies read = supplies_of-again [] lines supplies read.each_line read.is_manifest
