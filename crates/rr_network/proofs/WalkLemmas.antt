-- What the search marks is where walks end.
use Rattle.std.proofs.Common.{◌≡◌, ℕ, ◌<◌, ◌⊎◌, ◌↔◌, ◌==◌, ◌||◌, not, ◌&&◌, Bool, true, false, List, length, get_or, refl, sym, ◌∙◌, ap, subst, inl, inr, arith}
use Rattle.std.specs.List.{Contains, list_any}
use Rattle.std.proofs.lemmas.List.{get_or_default}
use Rattle.std.proofs.lemmas.List.Elements.{Contains-get_or}
use Rattle.std.proofs.lemmas.List.Folds.{Any-from_list_any, list_any-from_Any}
use Rattle.std.proofs.lemmas.Bool.{false≢true}
use Rattle.std.proofs.lemmas.Bool.Decides.{nat_tests}
use Rattle.rr_routes.specs.Reachability.Reach.{IsReached, IsMarked}
use Rattle.rr_routes.specs.Reachability.Reach.IsReached.{Start, Follower}
use Rattle.rr_roster.specs.declared.company.Corp.{Corp}
use Rattle.rr_network.specs.declared.node.Node.{Node}
use Rattle.rr_network.specs.declared.step.Step.{Step}
use Rattle.rr_network.specs.Node.{same_node}
use Rattle.rr_network.specs.Network.{Net}
use Rattle.rr_routes.specs.Reachability.Places.{ArePlaces, AreMarkedItems, IsGraphOf}
use Rattle.rr_network.specs.Walk.{EndsWalk, Reached, ReachesLink, ReachesNode, goes_on, has_token, is_terminal, may_follow, reaches_link, reaches_node, steps_of}
use Rattle.rr_network.specs.Walk.EndsWalk.{Begins, GoesOn}

-- the graph over the steps of a network, and the places at which a walk may begin
pub record IsSearched (net : Net) (corp : Corp) (steps : List Step) (graph : List (List ℕ)) (starts : List ℕ) : Type 0 where
  pub all : steps ≡ steps_of net.links
  pub rows : IsGraphOf (goes_on net corp) steps (length steps) graph
  pub first : ArePlaces (λ step. has_token net.stations corp step.from) steps (length steps) starts

both_true : (a b : Bool) → (not a && b) ≡ true → (a ≡ false) × (b ≡ true)
both_true true b h = absurd (false≢true h)
both_true false b h = (refl, h)

and_true : (a b : Bool) → a ≡ false → b ≡ true → (not a && b) ≡ true
and_true a b e f = rw (e, f) refl

is_step : (net : Net) (corp : Corp) (steps : List Step) (graph : List (List ℕ)) (starts : List ℕ) (k : ℕ) (d : Step) → IsSearched net corp steps graph starts → k < length steps → Contains (steps_of net.links) (get_or steps k d)
is_step net corp steps graph starts k d s h = subst (λ (all : List Step). Contains all (get_or steps k d)) s.all (Contains-get_or steps k d h)

-- a walk ends with each step that is reached
pub walk_from_reached : (net : Net) (corp : Corp) (steps : List Step) (graph : List (List ℕ)) (starts : List ℕ) (d : Step) → IsSearched net corp steps graph starts → (k : ℕ) → IsReached graph starts k → (k < length steps) × EndsWalk net corp (get_or steps k d)
walk_from_reached net corp steps graph starts d s _ (Start k c) =
    let at = s.first.sound k d c in
    (at.0, Begins (get_or steps k d) (is_step net corp steps graph starts k d s at.0) at.1)
walk_from_reached net corp steps graph starts d s _ (Follower k next r c) =
    let before = walk_from_reached net corp steps graph starts d s k r in
    let at = (s.rows.places k d before.0).sound next d c in
    let open_and_next = both_true (is_terminal net.stops net.stations corp (get_or steps k d).to) (may_follow (get_or steps k d) (get_or steps next d)) at.1 in
    (at.0, GoesOn (get_or steps k d) (get_or steps next d) before.1 open_and_next.0 (is_step net corp steps graph starts next d s at.0) open_and_next.1)

-- a reached place that has the step
pub record IsReachedAt (steps : List Step) (graph : List (List ℕ)) (starts : List ℕ) (step : Step) : Type 0 where
  pub place : ℕ
  pub inside : place < length steps
  pub here : get_or steps place step ≡ step
  pub reached : IsReached graph starts place

-- each step with which a walk ends is reached
pub reached_from_walk : (net : Net) (corp : Corp) (steps : List Step) (graph : List (List ℕ)) (starts : List ℕ) → IsSearched net corp steps graph starts → (step : Step) → EndsWalk net corp step → IsReachedAt steps graph starts step
reached_from_walk net corp steps graph starts s _ (Begins step c token) =
    let at = subst (λ (all : List Step). Contains all step) (sym s.all) c in
    record { place = at.0; inside = at.1; here = at.2; reached = Start at.0 (s.first.complete at.0 step at.1 (ap (λ (x : Step). has_token net.stations corp x.from) at.2 ∙ token)) }
reached_from_walk net corp steps graph starts s _ (GoesOn step next walk free c follows) =
    let before = reached_from_walk net corp steps graph starts s step walk in
    let at = subst (λ (all : List Step). Contains all next) (sym s.all) c in
    let here : get_or steps before.place next ≡ step = get_or_default steps before.place next step before.inside ∙ before.here in
    record {
      place = at.0;
      inside = at.1;
      here = at.2;
      reached = Follower before.place at.0 before.reached ((s.rows.places before.place next before.inside).complete at.0 next at.1
          (ap (λ (x : Step). goes_on net corp x (get_or steps at.0 next)) here ∙ ap (λ (x : Step). goes_on net corp step x) at.2 ∙ and_true (is_terminal net.stops net.stations corp step.to) (may_follow step next) free follows));
    }

-- the marked steps are those with which a walk ends
pub marked-EndsWalk : (net : Net) (corp : Corp) (steps : List Step) (graph : List (List ℕ)) (starts : List ℕ) (marks : List Bool) (marked : List Step) → IsSearched net corp steps graph starts → ((state : ℕ) → state < length graph → IsMarked marks state ↔ IsReached graph starts state) → AreMarkedItems steps marks (length steps) marked → (step : Step) → Contains marked step ↔ EndsWalk net corp step
marked-EndsWalk net corp steps graph starts marks marked s m a step = (
  λ c. let h = (a step).0 c in
      subst (λ (x : Step). EndsWalk net corp x) h.here (walk_from_reached net corp steps graph starts step s h.place ((m h.place (omega (arith, h.inside, s.rows.states))).0 h.marked)).1,
  λ w. let h = reached_from_walk net corp steps graph starts s step w in
      (a step).1 (record { place = h.place; inside = h.inside; here = h.here; marked = (m h.place (omega (arith, h.inside, s.rows.states))).1 h.reached }),
)

-- some step passes a test
some_step : (test : Step → Bool) (steps : List Step) → (step : Step) → Contains steps step → test step ≡ true → list_any test steps ≡ true
some_step test steps step c t = list_any-from_Any test steps (c.0, step, c.1, c.2, t)

eq_from_test : (m n : ℕ) → (m == n) ≡ true → m ≡ n
eq_from_test m n h = grind (arith, nat_tests)

test_from_eq : (m n : ℕ) → m ≡ n → (m == n) ≡ true
test_from_eq m n h = grind (arith, nat_tests)

pub link-reached : (net : Net) (corp : Corp) (reach : Reached) → ((step : Step) → Contains reach.steps step ↔ EndsWalk net corp step) → (number : ℕ) → reaches_link reach number ≡ true ↔ ReachesLink net corp number
link-reached net corp reach all number = (
  λ h. let any = Any-from_list_any (λ (step : Step). step.number == number) reach.steps h in
      record { step = any.1; walk = (all any.1).0 (any.0, any.2, any.3); over = eq_from_test any.1.number number any.4 },
  λ h. some_step (λ step. step.number == number) reach.steps h.step ((all h.step).1 h.walk) (test_from_eq h.step.number number h.over),
)

or_cases : (a b : Bool) → (a || b) ≡ true → (a ≡ true) ⊎ (b ≡ true)
or_cases true b h = inl refl
or_cases false b h = inr h

or_left : (a b : Bool) → a ≡ true → (a || b) ≡ true
or_left a b e = rw e refl

or_right : (a b : Bool) → b ≡ true → (a || b) ≡ true
or_right true b e = refl
or_right false b e = e

pub node-reached : (net : Net) (corp : Corp) (reach : Reached) → reach.corp ≡ corp → reach.stations ≡ net.stations → ((step : Step) → Contains reach.steps step ↔ EndsWalk net corp step) → (node : Node) → reaches_node reach node ≡ true ↔ ReachesNode net corp node
node-reached net corp reach same_corp same_stations all node =
    let there : Bool = list_any (λ (step : Step). same_node node step.to) reach.steps in
    let token : has_token reach.stations reach.corp node ≡ has_token net.stations corp node = rw (same_corp, same_stations) refl in (
      λ h. elim (or_cases (has_token reach.stations reach.corp node) there h) [
        | inl t ↦ inl (sym token ∙ t)
        | inr w ↦ let any = Any-from_list_any (λ (step : Step). same_node node step.to) reach.steps w in
            inr (record { step = any.1; walk = (all any.1).0 (any.0, any.2, any.3); there = any.4 })
      ],
      λ h. elim h [
        | inl t ↦ or_left (has_token reach.stations reach.corp node) there (token ∙ t)
        | inr w ↦ or_right (has_token reach.stations reach.corp node) there (some_step (λ step. same_node node step.to) reach.steps w.step ((all w.step).1 w.walk) w.there)
      ],
    )
