-- The edges that a text spells are those of which it is the text.
use Rattle.std.proofs.Common.{◌≡◌, ◌≢◌, ℕ, ◌+◌, ◌-◌, ◌<◌, ◌≤◌, refl, sym, ap, ◌∙◌, subst, true, false, List, [], ◌∷◌, ◌++◌, length, map, get_or, append-nil, append_assoc, length-append, Some, arith}
use Rattle.std.specs.Prelude.{◌==◌, nat_le, All, AllPairs}
use Rattle.std.specs.List.{slice_split, join_with_byte}
use Rattle.std.proofs.Math.Seq.{get_or-append_seam}
use Rattle.std.proofs.lemmas.Bool.{and_parts, leb-true, le-leb, ne_eqb, eq-eqb, false_from_ne_true, eqb-true}
use Rattle.std.proofs.lemmas.Option.{same_Some}
use Rattle.std.proofs.lemmas.List.{map-append, get_or_append_left}
use Rattle.std.proofs.lemmas.List.Elements.{All-nil, All-cons, All-head, All-tail, All-push}
use Rattle.std.proofs.lemmas.List.Folds.{list_any_at, Any-from_list_any}
use Rattle.std.proofs.lemmas.List.Quantifiers.{all_pairs_push}
use Rattle.std.proofs.lemmas.List.Splits.{slice_split_none, slice_split_at, join_with_byte-slice_split}
use Rattle.rr_tiles.specs.Each.{added}
use Rattle.rr_tiles.specs.Edge.{edge_in, edge_of, has_edge, with_edge, add_edge, is_comma, edges_in, edges_of}
use Rattle.rr_tiles.specs.Sound.{IsEdge, AreEdges}
use Rattle.rr_tiles.specs.Spelling.{edge_word, edges_text}
use Rattle.rr_tiles.proofs.EachLemmas.{added-kept, added-none, added-cons}
use Rattle.rr_tiles.proofs.OptionLemmas.{and_then-some, unless-some, if-some}

-- the edge of a digit
pub edge_in-found : (digit edge : ℕ) → edge_in digit ≡ Some edge → (digit ≡ 48 + edge) × IsEdge edge
edge_in-found digit edge is =
    let kept = if-some _ (Some (digit - 48)) edge is in
    let range = and_parts (nat_le 48 digit) (nat_le digit 53) kept.0 in
    let same : digit - 48 ≡ edge = same_Some (digit - 48) edge kept.1 in
    let low : 48 ≤ digit = leb-true 48 digit range.0 in
    let high : digit ≤ 53 = leb-true digit 53 range.1 in
    (omega (arith, same, low), omega (arith, same, high))

pub edge_in-digit : (edge : ℕ) → IsEdge edge → edge_in (48 + edge) ≡ Some edge
edge_in-digit edge small =
    let low : 48 ≤ 48 + edge = omega arith in
    let high : 48 + edge ≤ 53 = omega (arith, small) in
    let back : 48 + edge - 48 ≡ edge = omega arith in
    rw (le-leb 48 (48 + edge) low, le-leb (48 + edge) 53 high, back) refl

edge_of-found : (word : List ℕ) (edge : ℕ) → edge_of word ≡ Some edge → (word ≡ edge_word edge) × IsEdge edge
edge_of-found [] edge is = absurd (cc)
edge_of-found (digit ∷ []) edge is = let found = edge_in-found digit edge is in (ap (λ d. d ∷ []) found.0, found.1)
edge_of-found (digit ∷ more ∷ rest) edge is = absurd (cc)

pub AllPairs-none : {X : Type 0} (R : X → X → Type 0) → AllPairs R []
AllPairs-none R i j d lt within = absurd (omega arith)

pub AreEdges-none : AreEdges []
AreEdges-none = record { each = All-nil IsEdge; different = AllPairs-none ◌≢◌ }

-- one edge more
AreEdges-push : (edges : List ℕ) (edge : ℕ) → AreEdges edges → IsEdge edge → has_edge edges edge ≡ false → AreEdges (edges ++ edge ∷ [])
AreEdges-push edges edge sound small new = record {
  each = All-push IsEdge edges edge sound.each small;
  different = all_pairs_push ◌≢◌ edges edge sound.different (λ k d within same.
      let found : has_edge edges edge ≡ true = list_any_at (λ other. other == edge) edges k d within (eq-eqb _ edge same) in
      cc);
}

record AreSpelled (words : List (List ℕ)) (edges : List ℕ) : Type 0 where
  words_are : words ≡ map edge_word edges
  sound : AreEdges edges

AreSpelled-next : (edges next : List ℕ) (words : List (List ℕ)) (word : List ℕ) → AreSpelled words edges → add_edge edges word ≡ Some next → AreSpelled (words ++ word ∷ []) next
AreSpelled-next edges next words word so_far is =
    let one = and_then-some (with_edge edges) (edge_of word) next is in
    let kept = unless-some (has_edge edges one.0) (edges ++ one.0 ∷ []) next one.2 in
    let found = edge_of-found word one.0 one.1 in
    subst (AreSpelled (words ++ word ∷ [])) kept.1 (record {
      words_are = ap (λ w. words ++ w ∷ []) found.0 ∙ ap (λ front. front ++ edge_word one.0 ∷ []) so_far.words_are ∙ sym (map-append edge_word edges (one.0 ∷ []));
      sound = AreEdges-push edges one.0 so_far.sound found.1 kept.0;
    })

edges_in-found : (words : List (List ℕ)) (edges : List ℕ) → edges_in words ≡ Some edges → AreSpelled words edges
edges_in-found words edges is =
    added-kept add_edge (λ so_far front. AreSpelled front so_far) [] (record { words_are = refl; sound = AreEdges-none }) AreSpelled-next words edges is

pub edges_of-found : (text edges : List ℕ) → edges_of text ≡ Some edges → (text ≡ edges_text edges) × AreEdges edges
edges_of-found [] [] is = (refl, AreEdges-none)
edges_of-found [] (edge ∷ edges) is = absurd (cc)
edges_of-found (c ∷ rest) edges is =
    let found = edges_in-found (slice_split is_comma (c ∷ rest)) edges is in
    (sym (join_with_byte-slice_split 44 (c ∷ rest)) ∙ ap (join_with_byte 44) found.words_are, found.sound)

-- the text of edges spells them
pub All-tail_of : {X : Type 0} (P : X → Type 0) (front : List X) (x : X) (rest : List X) → All P (front ++ x ∷ rest) → P x
All-tail_of P front x rest all =
    let within : length front < length (front ++ x ∷ rest) = omega (arith, length-append front (x ∷ rest)) in
    let here : P (get_or (front ++ x ∷ rest) (length front) x) = all (length front) x within in
    rw (get_or-append_seam front x rest x) at here

has_edge-new : (front : List ℕ) (edge : ℕ) (rest : List ℕ) → AllPairs ◌≢◌ (front ++ edge ∷ rest) → has_edge front edge ≡ false
has_edge-new front edge rest different =
    false_from_ne_true (has_edge front edge) (λ found.
    let at = Any-from_list_any (λ other. other == edge) front found in
    let last : length front < length (front ++ edge ∷ rest) = omega (arith, length-append front (edge ∷ rest)) in
    let pair : get_or (front ++ edge ∷ rest) at.0 at.1 ≢ get_or (front ++ edge ∷ rest) (length front) at.1 = different at.0 (length front) at.1 at.2 last in
    let apart : get_or front at.0 at.1 ≢ edge = rw (get_or_append_left front (edge ∷ rest) at.1 at.0 at.2, get_or-append_seam front edge rest at.1) at pair in
    apart (at.3 ∙ eqb-true at.1 edge at.4))

edges_in-again : (front rest : List ℕ) → AreEdges (front ++ rest) → added add_edge front (map edge_word rest) ≡ Some (front ++ rest)
edges_in-again front [] sound = added-none add_edge front ∙ ap (λ edges. Some edges) (sym (append-nil front))
edges_in-again front (edge ∷ rest) sound =
    let small : IsEdge edge = All-tail_of IsEdge front edge rest sound.each in
    let new : has_edge front edge ≡ false = has_edge-new front edge rest sound.different in
    let step : add_edge front (edge_word edge) ≡ Some (front ++ edge ∷ []) = rw (edge_in-digit edge small, new) refl in
    let longer : (front ++ edge ∷ []) ++ rest ≡ front ++ edge ∷ rest = append_assoc front (edge ∷ []) rest in
    added-cons add_edge front (front ++ edge ∷ []) (edge_word edge) (map edge_word rest) step
    ∙ edges_in-again (front ++ edge ∷ []) rest (subst AreEdges (sym longer) sound)
    ∙ ap (λ edges. Some edges) longer

no_comma : (edge : ℕ) → IsEdge edge → All (λ c. is_comma c ≡ false) (edge_word edge)
no_comma edge small = All-cons (λ c. is_comma c ≡ false) (48 + edge) [] (ne_eqb (48 + edge) 44 (λ same. omega (arith, same))) (All-nil (λ c. is_comma c ≡ false))

slice_split-edges : (edge : ℕ) (edges : List ℕ) → All IsEdge (edge ∷ edges) → slice_split is_comma (edges_text (edge ∷ edges)) ≡ map edge_word (edge ∷ edges)
slice_split-edges edge [] each = slice_split_none is_comma (edge_word edge) (no_comma edge (All-head IsEdge edge [] each))
slice_split-edges edge (next ∷ more) each =
    slice_split_at is_comma (edge_word edge) 44 (edges_text (next ∷ more)) (no_comma edge (All-head IsEdge edge (next ∷ more) each)) refl
    ∙ ap (λ rest. edge_word edge ∷ rest) (slice_split-edges next more (All-tail IsEdge edge (next ∷ more) each))

edges_of-some : (edge : ℕ) (edges : List ℕ) → edges_of (edges_text (edge ∷ edges)) ≡ edges_in (slice_split is_comma (edges_text (edge ∷ edges)))
edges_of-some edge [] = refl
edges_of-some edge (next ∷ more) = refl

pub edges_of-text : (edges : List ℕ) → AreEdges edges → edges_of (edges_text edges) ≡ Some edges
edges_of-text [] sound = refl
edges_of-text (edge ∷ edges) sound =
    edges_of-some edge edges
    ∙ ap edges_in (slice_split-edges edge edges sound.each)
    ∙ edges_in-again [] (edge ∷ edges) sound
