-- Places: the first that passes a test, and all that pass one.
use Rattle.std.proofs.Common.{◌≡◌, ℕ, ◌+◌, ◌<◌, ◌≤◌, Bool, true, false, cond, List, [], ◌∷◌, ◌++◌, length, get_or, drop, refl, inl, inr, sym, ◌∙◌, ap, append_assoc, append-nil, arith}
use Rattle.std.specs.List.{Contains, position, position_or_len}
use Rattle.std.specs.Prelude.{unwrap_or}
use Rattle.std.proofs.lemmas.Bool.{cases_lt, false≢true}
use Rattle.std.proofs.lemmas.List.{drop_all, at_drop_more}
use Rattle.std.proofs.lemmas.List.Sums.{fails_before_first, passes_at_first}
use Rattle.rr_network.specs.declared.network.Stop.{Stop}
use Rattle.rr_running.specs.Net.Centres.{places_from}

-- where something passes, the first place that passes is inside
pub first_inside : {X : Type 0} (p : X → Bool) (xs : List X) (x : X) → Contains xs x → p x ≡ true → position_or_len p xs < length xs
first_inside p xs x c passes =
    elim (cases_lt (position_or_len p xs) (length xs)) [
      | inl inside ↦ inside
      | inr past ↦ absurd (false≢true (sym (fails_before_first p xs c.0 x (omega (arith, c.1, past))) ∙ ap p c.2 ∙ passes))
    ]

-- Two tests with one first place pass one thing: so where each thing passes the test of one subject alone, the subjects are one.
pub told_apart : {X Y : Type 0} (test : X → Y → Bool) (of : Y → X) (xs : List Y) (x other : X) → ((subject : X) (y : Y) → test subject y ≡ true → of y ≡ subject)
    → position_or_len (test x) xs < length xs → position_or_len (test x) xs ≡ position_or_len (test other) xs → (d : Y) → x ≡ other
told_apart test of xs x other tells inside same d =
    let inside_too : position_or_len (test other) xs < length xs = omega (arith, inside, same) in
    sym (tells x (get_or xs (position_or_len (test x) xs) d) (passes_at_first (test x) xs d inside))
    ∙ ap (λ (k : ℕ). of (get_or xs k d)) same
    ∙ tells other (get_or xs (position_or_len (test other) xs) d) (passes_at_first (test other) xs d inside_too)

-- the first place that passes, or the length where none does
pub unwrap_or-position : {X : Type 0} (p : X → Bool) (xs : List X) → unwrap_or (position p xs) (length xs) ≡ position_or_len p xs
unwrap_or-position p [] = refl
unwrap_or-position p (x ∷ xs) = grind (arith, unwrap_or-position p xs)

places_from-drop : (test : Stop → Bool) (stops : List Stop) (i : ℕ) (stop : Stop) → i < length stops → stop ≡ get_or stops i stop
    → places_from i test (drop i stops) ≡ cond (test stop) (i ∷ places_from (i + 1) test (drop (i + 1) stops)) (places_from (i + 1) test (drop (i + 1) stops))
unfolding places_from
places_from-drop test stops i stop h e =
    at_drop_more (places_from i test) stops i stop h
    ∙ ap (λ (s : Stop). cond (test s) (i ∷ places_from (i + 1) test (drop (i + 1) stops)) (places_from (i + 1) test (drop (i + 1) stops))) (sym e)

-- the place passes
pub places_next_yes : (test : Stop → Bool) (stops : List Stop) (i : ℕ) (stop : Stop) (all places new : List ℕ) → places ++ places_from i test (drop i stops) ≡ all
    → i < length stops → stop ≡ get_or stops i stop → test stop ≡ true → new ≡ places ++ i ∷ [] → new ++ places_from (i + 1) test (drop (i + 1) stops) ≡ all
places_next_yes test stops i stop all places new so_far h e passes pushed =
    let rest : List ℕ = places_from (i + 1) test (drop (i + 1) stops) in
    ap (λ (ps : List ℕ). ps ++ rest) pushed
    ∙ append_assoc places (i ∷ []) rest
    ∙ ap (λ (b : Bool). places ++ cond b (i ∷ rest) rest) (sym passes)
    ∙ ap (λ (ps : List ℕ). places ++ ps) (sym (places_from-drop test stops i stop h e))
    ∙ so_far

-- the place doesn't pass
pub places_next_no : (test : Stop → Bool) (stops : List Stop) (i : ℕ) (stop : Stop) (all places : List ℕ) → places ++ places_from i test (drop i stops) ≡ all
    → i < length stops → stop ≡ get_or stops i stop → test stop ≡ false → places ++ places_from (i + 1) test (drop (i + 1) stops) ≡ all
places_next_no test stops i stop all places so_far h e fails =
    let rest : List ℕ = places_from (i + 1) test (drop (i + 1) stops) in
    ap (λ (b : Bool). places ++ cond b (i ∷ rest) rest) (sym fails)
    ∙ ap (λ (ps : List ℕ). places ++ ps) (sym (places_from-drop test stops i stop h e))
    ∙ so_far

-- no place is left
pub places_done : (test : Stop → Bool) (stops : List Stop) (i : ℕ) (all places : List ℕ) → places ++ places_from i test (drop i stops) ≡ all → length stops ≤ i → places ≡ all
unfolding places_from
places_done test stops i all places so_far h =
    sym (append-nil places) ∙ ap (λ (ss : List Stop). places ++ places_from i test ss) (sym (drop_all i stops h)) ∙ so_far
