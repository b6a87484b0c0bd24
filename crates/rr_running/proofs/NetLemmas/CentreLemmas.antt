-- The centres that pass a test, and the nodes of a network.
use Rattle.std.proofs.Common.{◌≡◌, ℕ, ◌+◌, ◌<◌, ◌↔◌, Bool, true, false, cond, zero, suc, List, [], ◌∷◌, length, get_or, inl, inr, refl, sym, ◌∙◌, ap, subst, arith}
use Rattle.std.specs.Prelude.{Some}
use Rattle.std.specs.List.{Contains, slice_get}
use Rattle.std.proofs.lemmas.Bool.{and_parts, false≢true}
use Rattle.std.proofs.lemmas.List.{get_or_default}
use Rattle.std.proofs.lemmas.List.Folds.{Any-from_list_any}
use Rattle.std.proofs.lemmas.List.Sums.{passes_at_first}
use Rattle.std.proofs.lemmas.Option.{slice_get_read, slice_get_within}
use Rattle.rr_roster.specs.declared.company.Corp.{Corp}
use Rattle.rr_desk.specs.declared.layout.layout.Station.{Station}
use Rattle.rr_network.specs.declared.network.Stop.{Stop}
use Rattle.rr_network.specs.declared.node.CentreAt.{CentreAt}
use Rattle.rr_network.specs.declared.node.Hexside.{Hexside}
use Rattle.rr_network.specs.declared.node.Node.{Node}
use Rattle.rr_network.specs.declared.node.Node.TheVariants.{Hexside as OfHexside, Centre as OfCentre}
use Rattle.rr_network.specs.Node.{same_node}
use Rattle.rr_network.specs.Walk.{has_token, token_at}
use Rattle.rr_network.proofs.FacingLemmas.{is_test_of_hexsides}
use Rattle.rr_routes.proofs.Elements.{Contains-cases, Contains-here, Contains-nil, Contains-there}
use Rattle.rr_running.specs.Net.Centres.{places, places_from}
use Rattle.rr_running.specs.Net.Joining.{centre_place, is_stop_at}
use Rattle.rr_running.specs.Net.Telling.{HasCentre}
use Rattle.rr_running.proofs.NetLemmas.TellingLemmas.{centre_inside, same_centre-itself, same_centre-tells}

-- a place among those counted on from a number
record IsPlaceFrom (number : ℕ) (test : Stop → Bool) (stops : List Stop) (place : ℕ) : Type 0 where
  pub behind : ℕ
  pub stop : Stop
  pub counted : place ≡ number + behind
  pub at : slice_get stops behind ≡ Some stop
  pub passes : test stop ≡ true

place_later : (number : ℕ) (test : Stop → Bool) (first : Stop) (stops : List Stop) (place : ℕ) → IsPlaceFrom (number + 1) test stops place → IsPlaceFrom number test (first ∷ stops) place
place_later number test first stops place p =
    record { behind = suc p.behind; stop = p.stop; counted = omega (arith, p.counted); at = p.at; passes = p.passes }

place_from-first : (number : ℕ) (test : Stop → Bool) (first : Stop) (stops : List Stop) (place : ℕ) (passes : Bool) → test first ≡ passes
    → (Contains (places_from (number + 1) test stops) place → IsPlaceFrom (number + 1) test stops place)
    → Contains (cond passes (number ∷ places_from (number + 1) test stops) (places_from (number + 1) test stops)) place → IsPlaceFrom number test (first ∷ stops) place
place_from-first number test first stops place true e rest c =
    elim (Contains-cases number (places_from (number + 1) test stops) place c) [
      | inl is ↦ record { behind = 0; stop = first; counted = omega (arith, is); at = refl; passes = e }
      | inr later ↦ place_later number test first stops place (rest later)
    ]
place_from-first number test first stops place false e rest c = place_later number test first stops place (rest c)

place_from : (number : ℕ) (test : Stop → Bool) (stops : List Stop) (place : ℕ) → Contains (places_from number test stops) place → IsPlaceFrom number test stops place
unfolding places_from
place_from number test [] place c = absurd (Contains-nil place c)
place_from number test (first ∷ stops) place c = place_from-first number test first stops place (test first) refl (place_from (number + 1) test stops place) c

among_rest : (passes : Bool) (number : ℕ) (rest : List ℕ) (place : ℕ) → Contains rest place → Contains (cond passes (number ∷ rest) rest) place
among_rest true number rest place c = Contains-there number rest place c
among_rest false number rest place c = c

place_among : (number : ℕ) (test : Stop → Bool) (stops : List Stop) (behind : ℕ) (stop : Stop) → slice_get stops behind ≡ Some stop → test stop ≡ true
    → Contains (places_from number test stops) (number + behind)
unfolding places_from
place_among number test [] behind stop at passes = absurd (omega (arith, slice_get_within {A = Stop} [] behind stop at))
place_among number test (first ∷ stops) zero stop at passes =
    let is : first ≡ stop = cc in
    let rest : List ℕ = places_from (number + 1) test stops in
    let same : number ≡ number + 0 = omega arith in
    subst (λ n. Contains (cond (test first) (number ∷ rest) rest) n) same
    (subst (λ b. Contains (cond b (number ∷ rest) rest) number) (sym (ap test is ∙ passes)) (Contains-here number rest))
place_among number test (first ∷ stops) (suc behind) stop at passes =
    let rest : List ℕ = places_from (number + 1) test stops in
    let same : number + 1 + behind ≡ number + suc behind = omega arith in
    subst (λ n. Contains (cond (test first) (number ∷ rest) rest) n) same
    (among_rest (test first) number rest (number + 1 + behind) (place_among (number + 1) test stops behind stop at passes))

-- the place of a centre is among those that pass exactly where the centre does
pub passing : (test : Stop → Bool) (stops : List Stop) (place : ℕ) (stop : Stop) → slice_get stops place ≡ Some stop → Contains (places test stops) place ↔ (test stop ≡ true)
passing test stops place stop at = (
  λ c.
      let p = place_from 0 test stops place c in
      let same : p.behind ≡ place = omega (arith, p.counted) in
      let both : Some p.stop ≡ Some stop = sym p.at ∙ ap (slice_get stops) same ∙ at in
      let is : p.stop ≡ stop = cc in
      ap test (sym is) ∙ p.passes,
  λ passes.
      let same : 0 + place ≡ place = omega arith in
      subst (λ n. Contains (places test stops) n) same (place_among 0 test stops place stop at passes),
)

-- the first centre that lies there
pub record IsStopAt (stops : List Stop) (at : CentreAt) : Type 0 where
  pub stop : Stop
  pub found : slice_get stops (centre_place stops at) ≡ Some stop
  pub there : stop.at ≡ at

pub stop_at : (stops : List Stop) (at : CentreAt) → HasCentre stops at → IsStopAt stops at
stop_at stops at h =
    let place : ℕ = centre_place stops at in
    let inside : place < length stops = centre_inside stops at h in
    let stop : Stop = get_or stops place h.stop in
    record {
      stop = stop;
      found = slice_get_read stops (length stops) place stop refl inside (get_or_default stops place h.stop stop inside);
      there = same_centre-tells stop.at at (passes_at_first (is_stop_at at) stops h.stop inside);
    }

pub same_node-tells : (node other : Node) → same_node node other ≡ true → node ≡ other
same_node-tells (OfHexside side) (OfHexside other) passed = ap OfHexside ((is_test_of_hexsides side other).0 passed)
same_node-tells (OfHexside side) (OfCentre other) passed = absurd (false≢true passed)
same_node-tells (OfCentre at) (OfHexside other) passed = absurd (false≢true passed)
same_node-tells (OfCentre at) (OfCentre other) passed = ap OfCentre (same_centre-tells at other passed)

pub same_node-itself : (node : Node) → same_node node node ≡ true
same_node-itself (OfHexside side) = (is_test_of_hexsides side side).1 refl
same_node-itself (OfCentre at) = same_centre-itself at

pub no_token_on_hexside : (stations : List Station) (corp : Corp) (side : Hexside) → has_token stations corp (OfHexside side) ≡ true → ⊥
no_token_on_hexside stations corp side h =
    let any = Any-from_list_any (token_at corp (OfHexside side)) stations h in
    let both = and_parts _ _ any.4 in
    false≢true both.1
