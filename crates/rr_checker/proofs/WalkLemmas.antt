-- What the search marks is where walks end.
use Rattle.std.proofs.Common.{◌≡◌, ℕ, ◌<◌, ◌↔◌, not, ◌&&◌, Bool, true, false, List, length, get_or, map, refl, sym, ◌∙◌, ap, subst, arith}
use Rattle.std.proofs.lemmas.List.{get_or_default, get_or-map}
use Rattle.std.proofs.lemmas.List.Elements.{Contains-get_or}
use Rattle.std.proofs.lemmas.Bool.{false≢true}
use Rattle.rr_routes.specs.Reachability.Reach.{IsReachedWithin, start_within, follower_within, IsMarked}
use Rattle.rr_routes.specs.declared.net.Node.{Node}
use Rattle.rr_routes.specs.declared.certificate.Fate.{Fate}
use Rattle.rr_routes.specs.Net.{Net, Joins, HasToken, IsTerminal}
use Rattle.rr_routes.specs.Routes.{Passes}
use Rattle.rr_routes.specs.Reach.{WalkTo}
use Rattle.rr_routes.specs.Certificates.{fate_of, MayUse}
use Rattle.rr_routes.proofs.Reaching.{begins, continues, WalkTo-holds}
use Rattle.rr_checker.specs.declared.step.Step.{Step}
use Rattle.rr_checker.specs.Steps.{same_node, allows, has_token, is_terminal, HasStep, passes_at, goes_on}
use Rattle.rr_routes.specs.Reachability.Places.{AreMarkedItems}
use Rattle.rr_checker.specs.Searching.{AreEndMarks, AreEnds, AreTracks}
use Rattle.rr_checker.proofs.StepLemmas.{yes, no, to_true, to_false, Decides-same_node, Decides-has_token, Decides-is_terminal, Decides-allows, Decides-passes, HasStep-Joins, step_over}

parts : (a b c : Bool) → (not a && (b && c)) ≡ true → (a ≡ false) × (b ≡ true) × (c ≡ true)
parts true b c h = absurd (false≢true h)
parts false true c h = (refl, refl, h)
parts false false c h = absurd (false≢true h)

whole : (a b c : Bool) → a ≡ false → b ≡ true → c ≡ true → (not a && (b && c)) ≡ true
whole a b c e f g = rw (e, f, g) refl

module _ (net : Net) (fates : List Fate) (train : ℕ) where
  -- for each step whether the train may use its link
  abbrev pub AreAllowed : List Step → List Bool → Type 0
  AreAllowed steps allowed = allowed ≡ map (λ (step : Step). allows (fate_of fates step.link) train) steps

  module _ (steps : List Step) (graph : List (List ℕ)) (starts : List ℕ) (allowed : List Bool) (s : AreTracks net steps graph starts) (free : AreAllowed steps allowed) where
    has_step : (k : ℕ) (d : Step) → k < length steps → HasStep net (length net.links) (get_or steps k d)
    has_step k d h = (s.all (get_or steps k d)).0 (Contains-get_or steps k d h)

    allowed_at : (k : ℕ) (d : Step) → k < length steps → get_or allowed k false ≡ allows (fate_of fates (get_or steps k d).link) train
    allowed_at k d inside =
        ap (λ (marks : List Bool). get_or marks k false) free ∙ get_or-map (λ (step : Step). allows (fate_of fates step.link) train) steps k d false inside

    may_here : (k : ℕ) (d : Step) → k < length steps → IsMarked allowed k → MayUse fates train (get_or steps k d).link
    may_here k d inside is =
        let step = get_or steps k d in
        yes (Decides-allows (fate_of fates step.link) train) (sym (allowed_at k d inside) ∙ is)

    mark_here : (k : ℕ) (step : Step) → k < length steps → get_or steps k step ≡ step → MayUse fates train step.link → IsMarked allowed k
    mark_here k step inside here may =
        allowed_at k step inside ∙ ap (λ (x : Step). allows (fate_of fates x.link) train) here
        ∙ to_true (allows (fate_of fates step.link) train) (Decides-allows (fate_of fates step.link) train) may

    -- a walk ends with each step that is reached
    walk_from_reached : (d : Step) (k : ℕ) → IsReachedWithin graph allowed starts k
        → (k < length steps) × WalkTo net (MayUse fates train) (get_or steps k d).link (get_or steps k d).to
    walk_from_reached d _ (start_within k c is) =
        let at = s.first.sound k d c in
        let step = get_or steps k d in
        let has = has_step k d at.0 in (
          at.0,
          begins net (MayUse fates train) step.link step.from step.to (yes (Decides-has_token net step.from) at.1) (may_here k d at.0 is)
              (HasStep-Joins net (length net.links) step has),
        )
    walk_from_reached d _ (follower_within k next r c is) =
        let before = walk_from_reached d k r in
        let at = (s.rows.places k d before.0).sound next d c in
        let step = get_or steps k d in
        let then = get_or steps next d in
        let has = has_step k d before.0 in
        let also = has_step next d at.0 in
        let tests = parts (is_terminal net step.to) (same_node step.to then.from) (passes_at step.to step then) at.1 in
        let meets : step.to ≡ then.from = yes (Decides-same_node step.to then.from) tests.1 in
        let goes : IsTerminal net step.to → ⊥ = no (Decides-is_terminal net step.to) tests.0 in
        let passes : Passes net step.link step.to then.link = yes (Decides-passes net (length net.links) step then has also step.to) tests.2 in (
          at.0,
          continues net (MayUse fates train) step.link step.to then.link then.to before.1 goes passes (may_here next d at.0 is)
              (subst (λ n. Joins net then.link n then.to) (sym meets) (HasStep-Joins net (length net.links) then also)),
        )

    -- a reached place whose step goes over the link to the node
    record IsReachedAt (link : ℕ) (node : Node) : Type 0 where
      place : ℕ
      step : Step
      inside : place < length steps
      here : get_or steps place step ≡ step
      link_is : step.link ≡ link
      to_is : step.to ≡ node
      reached : IsReachedWithin graph allowed starts place

    at_first : (link : ℕ) (from to : Node) → HasToken net from → MayUse fates train link → Joins net link from to → IsReachedAt link to
    at_first link from to token may joins =
        let over = step_over net link from to joins in
        let at = (s.all over.step).1 over.has in
        record {
          place = at.0;
          step = over.step;
          inside = at.1;
          here = at.2;
          link_is = over.link_is;
          to_is = over.to_is;
          reached = start_within at.0 (s.first.complete at.0 over.step at.1
              (ap (λ (x : Step). has_token net x.from) at.2 ∙ to_true (has_token net over.step.from) (Decides-has_token net over.step.from) (subst (λ n. HasToken net n) (sym over.from_is) token)))
              (mark_here at.0 over.step at.1 at.2 (subst (λ l. MayUse fates train l) (sym over.link_is) may));
        }

    at_next : (link : ℕ) (at : Node) (next : ℕ) (to : Node) → IsReachedAt link at → (IsTerminal net at → ⊥) → Passes net link at next → MayUse fates train next
        → Joins net next at to → IsReachedAt next to
    at_next link node next to before goes passes may joins =
        let over = step_over net next node to joins in
        let at = (s.all over.step).1 over.has in
        let step = before.step in
        let has : HasStep net (length net.links) step = subst (λ x. HasStep net (length net.links) x) before.here (has_step before.place step before.inside) in
        let then = over.step in
        let goes_now : is_terminal net step.to ≡ false = to_false (is_terminal net step.to) (Decides-is_terminal net step.to) (subst (λ n. IsTerminal net n → ⊥) (sym before.to_is) goes) in
        let meets : same_node step.to then.from ≡ true = to_true (same_node step.to then.from) (Decides-same_node step.to then.from) (before.to_is ∙ sym over.from_is) in
        let moved : Passes net step.link step.to then.link =
        subst (λ l. Passes net l step.to then.link) (sym before.link_is) (subst (λ n. Passes net link n then.link) (sym before.to_is) (subst (λ l. Passes net link node l) (sym over.link_is) passes)) in
        let passing : passes_at step.to step then ≡ true =
        to_true (passes_at step.to step then) (Decides-passes net (length net.links) step then has over.has step.to) moved in
        let here : get_or steps before.place then ≡ step = get_or_default steps before.place then step before.inside ∙ before.here in
        record {
          place = at.0;
          step = then;
          inside = at.1;
          here = at.2;
          link_is = over.link_is;
          to_is = over.to_is;
          reached = follower_within before.place at.0 before.reached ((s.rows.places before.place then before.inside).complete at.0 then at.1
              (ap (λ (x : Step). goes_on net x (get_or steps at.0 then)) here ∙ ap (λ (x : Step). goes_on net step x) at.2
              ∙ whole (is_terminal net step.to) (same_node step.to then.from) (passes_at step.to step then) goes_now meets passing))
              (mark_here at.0 then at.1 at.2 (subst (λ l. MayUse fates train l) (sym over.link_is) may));
        }

    -- the marked steps end where walks end
    pub end-marks : (marks : List Bool) → ((state : ℕ) → state < length graph → IsMarked marks state ↔ IsReachedWithin graph allowed starts state)
        → AreEndMarks net (MayUse fates train) steps marks
    end-marks marks m link node = (
      λ found.
          let step = found.0 in
          let h = found.1 in
          let walk = walk_from_reached step h.place ((m h.place (omega (arith, h.inside, s.rows.states))).0 h.marked) in
          subst (λ n. WalkTo net (MayUse fates train) link n) found.3 (subst (λ l. WalkTo net (MayUse fates train) l step.to) found.2
          (subst (λ (x : Step). WalkTo net (MayUse fates train) x.link x.to) h.here walk.1)),
      λ w.
          let h = WalkTo-holds net (MayUse fates train) IsReachedAt at_first at_next link node w in
          (h.step, record { place = h.place; inside = h.inside; here = h.here; marked = (m h.place (omega (arith, h.inside, s.rows.states))).1 h.reached }, h.link_is, h.to_is),
    )

-- so do they as a list
pub marked-ends : (net : Net) (MayUse : ℕ → Type 0) (steps : List Step) (marks : List Bool) (marked : List Step) → AreEndMarks net MayUse steps marks
    → AreMarkedItems steps marks (length steps) marked → AreEnds net MayUse marked
marked-ends net MayUse steps marks marked e a link node = (
  λ found. (e link node).0 (found.0, (a found.0).0 found.1, found.2, found.3),
  λ w. let h = (e link node).1 w in (h.0, (a h.0).1 h.1, h.2, h.3),
)
