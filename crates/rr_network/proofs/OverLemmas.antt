-- The links that steps go over, by their numbers.
use Rattle.std.proofs.Common.{◌≡◌, ℕ, zero, suc, ◌+◌, ◌<◌, ◌≤◌, ◌||◌, ◌==◌, Bool, true, false, List, [], ◌∷◌, length, get_or, set, replicate, take, refl, sym, ◌∙◌, ap, subst, inl, inr, arith}
use Rattle.std.specs.List.{Contains, list_any}
use Rattle.std.proofs.lemmas.Bool.{cases_eq, cases_lt, eq-eqb, ne_eqb, or_right}
use Rattle.std.proofs.lemmas.List.{get_or-replicate, get_or-set_other, get_or-set_same, get_or_past, length-replicate, length-set, take_all}
use Rattle.std.proofs.lemmas.List.Folds.{list_any_more}
use Rattle.rr_roster.specs.declared.company.Corp.{Corp}
use Rattle.rr_network.specs.declared.node.Link.{Link}
use Rattle.rr_network.specs.declared.step.Step.{Step}
use Rattle.rr_network.specs.Indexes.{AreOver, is_over}
use Rattle.rr_network.specs.Network.{Net}
use Rattle.rr_network.specs.Walk.{EndsWalk, steps_from}
use Rattle.rr_network.specs.Walk.EndsWalk.{Begins, GoesOn}

-- steps over links are numbered from the first link on
steps_within : (n : ℕ) (links : List Link) (step : Step) (k : ℕ) → k < length (steps_from n links) → get_or (steps_from n links) k step ≡ step → step.number < n + length links
unfolding steps_from
steps_within n [] step k inside here = absurd (omega (arith, inside))
steps_within n (link ∷ links) step zero inside here = subst (λ (s : Step). s.number < n + length (link ∷ links)) here (omega arith)
steps_within n (link ∷ links) step (suc zero) inside here = subst (λ (s : Step). s.number < n + length (link ∷ links)) here (omega arith)
steps_within n (link ∷ links) step (suc (suc k)) inside here = omega (arith, steps_within (n + 1) links step k (omega (arith, inside)) here)

-- a walk ends with a step over one of the links
pub walk_within : (net : Net) (corp : Corp) (step : Step) → EndsWalk net corp step → step.number < length net.links + 1
walk_within net corp _ (Begins step c token) = omega (arith, steps_within 1 net.links step c.0 c.1 c.2)
walk_within net corp _ (GoesOn step next walk free c follows) = omega (arith, steps_within 1 net.links next c.0 c.1 c.2)

-- so many numbers, of which those have a mark that the first n steps go over
pub record AreOverSoFar (steps : List Step) (n count : ℕ) (marks : List Bool) : Type 0 where
  pub as_long : length marks ≡ count
  pub exact : AreOver (take n steps) marks

pub over_first : (steps : List Step) (count : ℕ) → AreOverSoFar steps 0 count (replicate count false)
over_first steps count = record {
  as_long = length-replicate count false;
  exact = λ number. elim (cases_lt number count) [
    | inl inside ↦ get_or-replicate count number false false inside
    | inr past ↦ get_or_past (replicate count false) number false (omega (arith, past, length-replicate count false))
  ];
}

neither : (a b : Bool) → b ≡ false → (a || b) ≡ a
neither true b e = refl
neither false b e = e

pub over_next : (steps : List Step) (n count : ℕ) (marks : List Bool) (step : Step) → n < length steps → step ≡ get_or steps n step → AreOverSoFar steps n count marks
    → step.number < length marks → AreOverSoFar steps (n + 1) count (set marks step.number true)
over_next steps n count marks step inside here so_far within = record {
  as_long = length-set marks step.number true ∙ so_far.as_long;
  exact = λ number.
      marked number ∙ ap (λ (s : Step). list_any (is_over number) (take n steps) || is_over number s) here ∙ sym (list_any_more (is_over number) steps n step inside);
}
  where
    marked : (number : ℕ) → get_or (set marks step.number true) number false ≡ (list_any (is_over number) (take n steps) || step.number == number)
    marked number = elim (cases_eq number step.number) [
      | inl same ↦ subst (λ (k : ℕ). get_or (set marks step.number true) k false ≡ (list_any (is_over k) (take n steps) || step.number == k)) (sym same)
          (get_or-set_same marks step.number true false within
          ∙ sym (or_right (list_any (is_over step.number) (take n steps)) (step.number == step.number) (eq-eqb step.number step.number refl)))
      | inr differ ↦ get_or-set_other marks step.number number true false differ ∙ so_far.exact number
          ∙ sym (neither (list_any (is_over number) (take n steps)) (step.number == number) (ne_eqb step.number number (λ e. differ (sym e))))
    ]

pub item_within : (links : List Link) (steps : List Step) (n : ℕ) (step : Step) → ((other : Step) → Contains steps other → other.number < length links + 1)
    → n < length steps → step ≡ get_or steps n step → step.number < length links + 1
item_within links steps n step within inside here = within step (n, inside, sym here)

pub over_done : (steps : List Step) (n count : ℕ) (marks : List Bool) → length steps ≤ n → AreOverSoFar steps n count marks → AreOver steps marks
over_done steps n count marks all so_far = subst (λ (ss : List Step). AreOver ss marks) (take_all n steps all) so_far.exact
