-- The track, the centre or the label that a word spells is the one whose word it is.
use Rattle.std.proofs.Common.{◌≡◌, ℕ, ◌+◌, ◌<◌, ◌≤◌, refl, sym, ap, ◌∙◌, subst, true, false, List, [], ◌∷◌, ◌++◌, Option, None, Some, option_and_then, inl, inr, arith, IfSome, decimal}
use Rattle.std.specs.Prelude.{◌==◌, ◌&&◌}
use Rattle.std.specs.Char.{is_ascii_uppercase}
use Rattle.std.proofs.lemmas.Bool.{cases_Bool, and_parts, eqb-true, eqb-false, ne_eqb}
use Rattle.std.proofs.lemmas.Bool.Decides.{nat_tests}
use Rattle.std.proofs.lemmas.Option.{same_Some}
use Rattle.rr_tiles.specs.Edge.{edge_in}
use Rattle.rr_tiles.specs.Reading.{centre_in, different_edges, element_of, label_in, letters_in, track_in}
use Rattle.rr_tiles.specs.Sound.{IsCapital, IsTrack}
use Rattle.rr_tiles.specs.Spelling.{IsElement, edges_text, kind_letter, kind_mark, label_word, track_word, word_of}
use Rattle.rr_tiles.specs.declared.element.Element.{Element}
use Rattle.rr_tiles.specs.declared.element.Element.TheVariants.{Part as OfPart, Label as OfLabel}
use Rattle.rr_tiles.specs.declared.part.Kind.{Kind}
use Rattle.rr_tiles.specs.declared.part.Kind.TheVariants.{Town, City, OffBoard}
use Rattle.rr_tiles.specs.declared.part.Part.TheVariants.{Track as OfTrack, Centre as OfCentre}
use Rattle.rr_tiles.proofs.CentreLemmas.{Spelled, is_kind_letter, centre_in-found, centre_in-centre}
use Rattle.rr_tiles.proofs.EdgeLemmas.{edge_in-found, edge_in-digit}
use Rattle.rr_tiles.proofs.OptionLemmas.{and_then-some, if-some, unless-some}

IsCapital-tested : (c : ℕ) → is_ascii_uppercase c ≡ true → IsCapital c
IsCapital-tested c holds = (grind (arith, nat_tests), grind (arith, nat_tests))

is_ascii_uppercase-capital : (c : ℕ) → IsCapital c → is_ascii_uppercase c ≡ true
is_ascii_uppercase-capital c capital =
    let low : 65 ≤ c = capital.0 in
    let high : c ≤ 90 = capital.1 in
    grind (arith, nat_tests)

label_in-found : (rest : List ℕ) (element : Element) → label_in rest ≡ Some element → Spelled (76 ∷ rest) element
label_in-found [] element is = absurd (cc)
label_in-found (mark ∷ []) element is = absurd (cc)
label_in-found (mark ∷ first ∷ []) element is =
    let kept = if-some (mark == 61 && is_ascii_uppercase first) (letters_in first None) element is in
    let tests = and_parts (mark == 61) (is_ascii_uppercase first) kept.0 in
    subst (Spelled (76 ∷ mark ∷ first ∷ [])) (same_Some _ element kept.1) (record {
      word_is = ap (λ m. 76 ∷ m ∷ first ∷ []) (eqb-true mark 61 tests.0);
      sound = record { first_letter = IsCapital-tested first tests.1; second_letter = tt };
    })
label_in-found (mark ∷ first ∷ second ∷ []) element is =
    let kept = if-some (mark == 61 && (is_ascii_uppercase first && is_ascii_uppercase second)) (letters_in first (Some second)) element is in
    let tests = and_parts (mark == 61) (is_ascii_uppercase first && is_ascii_uppercase second) kept.0 in
    let letters = and_parts (is_ascii_uppercase first) (is_ascii_uppercase second) tests.1 in
    subst (Spelled (76 ∷ mark ∷ first ∷ second ∷ [])) (same_Some _ element kept.1) (record {
      word_is = ap (λ m. 76 ∷ m ∷ first ∷ second ∷ []) (eqb-true mark 61 tests.0);
      sound = record { first_letter = IsCapital-tested first letters.0; second_letter = IsCapital-tested second letters.1 };
    })
label_in-found (mark ∷ first ∷ second ∷ more ∷ rest) element is = absurd (cc)

track_in-found : (word : List ℕ) (element : Element) → track_in word ≡ Some element → Spelled word element
track_in-found [] element is = absurd (cc)
track_in-found (from ∷ []) element is = absurd (cc)
track_in-found (from ∷ mark ∷ []) element is = absurd (cc)
track_in-found (from ∷ mark ∷ to ∷ []) element is =
    let kept = if-some (mark == 45) _ element is in
    let a = and_then-some (λ x. option_and_then (λ y. different_edges x y) (edge_in to)) (edge_in from) element kept.1 in
    let b = and_then-some (λ y. different_edges a.0 y) (edge_in to) element a.2 in
    let track = unless-some (a.0 == b.0) (OfPart (OfTrack (record { from = a.0; to = b.0 }))) element b.2 in
    let first = edge_in-found from a.0 a.1 in
    let last = edge_in-found to b.0 b.1 in
    subst (Spelled (from ∷ mark ∷ to ∷ [])) track.1 (record {
      word_is = ap (λ c. c ∷ mark ∷ to ∷ []) first.0 ∙ ap (λ m. (48 + a.0) ∷ m ∷ to ∷ []) (eqb-true mark 45 kept.0) ∙ ap (λ c. (48 + a.0) ∷ 45 ∷ c ∷ []) last.0;
      sound = record { from_edge = first.1; to_edge = last.1; different = eqb-false a.0 b.0 track.0 };
    })
track_in-found (from ∷ mark ∷ to ∷ more ∷ rest) element is = absurd (cc)

-- what a word spells has that word, and is sound
pub element_of-found : (word : List ℕ) (element : Element) → element_of word ≡ Some element → Spelled word element
element_of-found [] element is = absurd (cc)
element_of-found (first ∷ rest) element is =
    elim (cases_Bool (first == 76)) [
      | inl label ↦ subst (λ c. Spelled (c ∷ rest) element) (sym (eqb-true first 76 label)) (label_in-found rest element (rw label at is))
      | inr no_label ↦ elim (cases_Bool (is_kind_letter first)) [
        | inl centre ↦ centre_in-found first rest element centre (rw (no_label, centre) at is)
        | inr no_centre ↦ track_in-found (first ∷ rest) element (rw (no_label, no_centre) at is)
      ]
    ]

element_of-label : (first : ℕ) (second : Option ℕ) → IsCapital first → IfSome second IsCapital → element_of (label_word (record { first = first; second = second })) ≡ Some (OfLabel (record { first = first; second = second }))
element_of-label first None capital more = rw (is_ascii_uppercase-capital first capital) refl
element_of-label first (Some second) capital more = rw (is_ascii_uppercase-capital first capital, is_ascii_uppercase-capital second more) refl

element_of-track : (from to : ℕ) → IsTrack (record { from = from; to = to }) → element_of (track_word (record { from = from; to = to })) ≡ Some (OfPart (OfTrack (record { from = from; to = to })))
element_of-track from to sound =
    let small : from < 6 = sound.from_edge in
    let no_label : (48 + from == 76) ≡ false = ne_eqb (48 + from) 76 (λ same. omega arith) in
    let no_town : (48 + from == 116) ≡ false = ne_eqb (48 + from) 116 (λ same. omega arith) in
    let no_city : (48 + from == 99) ≡ false = ne_eqb (48 + from) 99 (λ same. omega arith) in
    let no_off_board : (48 + from == 111) ≡ false = ne_eqb (48 + from) 111 (λ same. omega arith) in
    rw (no_label, no_town, no_city, no_off_board, edge_in-digit from sound.from_edge, edge_in-digit to sound.to_edge, ne_eqb from to sound.different) refl

element_of-letter : (kind : Kind) (rest : List ℕ) → element_of (kind_letter kind ∷ rest) ≡ centre_in (kind_letter kind) rest
element_of-letter Town rest = refl
element_of-letter (City slots) rest = refl
element_of-letter (OffBoard later) rest = refl

-- the word of a sound element spells it
pub element_of-word_of : (element : Element) → IsElement element → element_of (word_of element) ≡ Some element
element_of-word_of (OfPart (OfTrack track)) sound = element_of-track track.from track.to sound
element_of-word_of (OfPart (OfCentre centre)) sound =
    element_of-letter centre.kind ((decimal centre.value ++ kind_mark centre.kind) ++ 58 ∷ edges_text centre.edges)
    ∙ centre_in-centre centre.kind centre.value centre.edges sound.sound_kind sound.sound_value sound.sound_edges
element_of-word_of (OfLabel label) sound = element_of-label label.first label.second sound.first_letter sound.second_letter
