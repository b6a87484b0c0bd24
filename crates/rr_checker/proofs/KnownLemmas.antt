-- What is known of the greatest values of trains, before a split, in each of its cases and after it.
use Rattle.std.proofs.Common.{◌≡◌, ◌≢◌, ℕ, zero, suc, ◌+◌, ◌-◌, ◌<◌, ◌≤◌, ◌==◌, false, Option, None, Some, List, [], ◌∷◌, length, get_or, replicate, set, refl, sym, ◌∙◌, ap, subst, inl, inr, arith}
use Rattle.std.specs.List.{AllByRecursion}
use Rattle.std.proofs.lemmas.Bool.{cases_eq, cases_lt}
use Rattle.std.proofs.lemmas.Bool.Decides.{nat_tests}
use Rattle.std.proofs.lemmas.List.{get_or-replicate, get_or-set_other, get_or-set_same, get_or_past, length-replicate, length-set}
use Rattle.rr_routes.specs.declared.certificate.Fate.{Fate}
use Rattle.rr_routes.specs.declared.certificate.Fate.TheVariants.{Open, Denied}
use Rattle.rr_routes.specs.declared.net.Node.{Node}
use Rattle.rr_routes.specs.declared.net.Node.TheVariants.{Centre}
use Rattle.rr_routes.specs.Net.{Net}
use Rattle.rr_routes.specs.Reach.{NodeReached}
use Rattle.rr_routes.specs.Certificates.{Allows, MayUse, fate_of}
use Rattle.rr_routes.specs.Greatest.{Greatest}
use Rattle.rr_checker.specs.Choices.{choice_at}
use Rattle.rr_checker.specs.Known.{AreKnown, IsWorth, with_owner}
use Rattle.rr_checker.proofs.JudgeLemmas.{choice_at-suc, set_back}

-- nothing is known at first
none_known : (count train : ℕ) (known : List (Option ℕ)) → known ≡ replicate count None → (length known ≡ count) × (get_or known train None ≡ None)
none_known count train known none =
    let as_many : length known ≡ count = ap (λ (xs : List (Option ℕ)). length xs) none ∙ length-replicate {A = Option ℕ} count None in (
      as_many,
      elim (cases_lt train count) [
        | inl inside ↦ ap (λ (xs : List (Option ℕ)). get_or xs train None) none ∙ get_or-replicate {A = Option ℕ} count train None None inside
        | inr past ↦ get_or_past known train None (omega (arith, past, as_many))
      ],
    )

pub nothing_known : (net : Net) (fates : List Fate) (known : List (Option ℕ)) → known ≡ replicate (length net.trains) None → AreKnown net fates known
nothing_known net fates known none = record {
  as_many = (none_known (length net.trains) 0 known none).0;
  each = λ train amount is. let e : None ≡ Some amount = sym (none_known (length net.trains) train known none).1 ∙ is in cc;
}

-- a train that may use the same links reaches the same centres
module _ (net : Net) (P Q : ℕ → Type 0) (to : (link : ℕ) → P link → Q link) where
  free_too : (links : List ℕ) → AllByRecursion P links → AllByRecursion Q links
  free_too [] free = tt
  free_too (link ∷ links) free = (to link free.0, free_too links free.1)

  reached_too : (node : Node) → NodeReached net P node → NodeReached net Q node
  reached_too node (inl token) = inl token
  reached_too node (inr found) =
      let walk = found.1 in
      inr (
        found.0,
        record {
          links = walk.links;
          nodes = walk.nodes;
          walk = walk.walk;
          no_terminal = walk.no_terminal;
          free = free_too (found.0 ∷ walk.links) walk.free;
          token = walk.token;
        },
      )

greatest_too : (net : Net) (fates others : List Fate) (train : ℕ) (best : List ℕ) → ((link : ℕ) → MayUse fates train link → MayUse others train link)
    → ((link : ℕ) → MayUse others train link → MayUse fates train link) → Greatest net fates train best → Greatest net others train best
greatest_too net fates others train best to from greatest = record {
  ranked = greatest.ranked;
  ranking = record {
    none_twice = greatest.ranking.none_twice;
    exact = λ centre. (
      λ c. reached_too net (MayUse fates train) (MayUse others train) to (Centre centre) ((greatest.ranking.exact centre).0 c),
      λ reached. (greatest.ranking.exact centre).1 (reached_too net (MayUse others train) (MayUse fates train) from (Centre centre) reached),
    );
    greatest_first = greatest.ranking.greatest_first;
  };
  best_is = greatest.best_is;
}

-- lists of which one has the other's value at the place of the case's train

pub length-with_owner : (known other : List (Option ℕ)) (place : ℕ) → length (with_owner known other place) ≡ length known
length-with_owner known other zero = refl
length-with_owner known other (suc owner) =
    let test : (suc owner == 0) ≡ false = grind (arith, nat_tests) in
    rw test (length-set known (suc owner - 1) (get_or other (suc owner - 1) None))

with_owner-each : (Q : ℕ → ℕ → Type 0) (known other : List (Option ℕ)) (place : ℕ) → place ≤ length known
    → ((train amount : ℕ) → train + 1 ≢ place → get_or known train None ≡ Some amount → Q train amount)
    → ((train amount : ℕ) → train + 1 ≡ place → get_or other train None ≡ Some amount → Q train amount)
    → (train amount : ℕ) → get_or (with_owner known other place) train None ≡ Some amount → Q train amount
with_owner-each Q known other zero fits rest own train amount is = rest train amount (λ e. omega (arith, e)) is
with_owner-each Q known other (suc owner) fits rest own train amount is = at (rw (test, less) at is)
  where
    test : (suc owner == 0) ≡ false
    test = grind (arith, nat_tests)

    less : suc owner - 1 ≡ owner
    less = omega arith

    theirs : Option ℕ
    theirs = get_or other owner None

    at : get_or (set known owner theirs) train None ≡ Some amount → Q train amount
    at here = elim (cases_eq train owner) [
      | inl same ↦ own train amount (omega (arith, same))
          (ap (λ (t : ℕ). get_or other t None) same ∙ sym (get_or-set_same known owner theirs None (omega (arith, fits)))
          ∙ ap (λ (t : ℕ). get_or (set known owner theirs) t None) (sym same) ∙ here)
      | inr differ ↦ rest train amount (λ e. differ (omega (arith, e))) (sym (get_or-set_other known owner train theirs None differ) ∙ here)
    ]

-- the case is that the link is the train's own
choice_open : (place train : ℕ) → train + 1 ≡ place → Allows (choice_at place) train
choice_open zero train is = absurd (omega (arith, is))
choice_open (suc owner) train is = let same : owner ≡ train = omega (arith, is) in subst (λ (fate : Fate). Allows fate train) (sym (choice_at-suc owner)) same

choice_closed : (place train : ℕ) → train + 1 ≢ place → Allows (choice_at place) train → ⊥
choice_closed zero train differ may = may
choice_closed (suc owner) train differ may =
    let same : owner ≡ train = subst (λ (fate : Fate). Allows fate train) (choice_at-suc owner) may in
    differ (omega (arith, same))

module _ (net : Net) (fates : List Fate) (link : ℕ) (inside : link < length fates) (opened : fate_of fates link ≡ Open) where
  fate_at : (choice : Fate) (other : ℕ) → other ≡ link → fate_of (set fates link choice) other ≡ choice
  fate_at choice other is = ap (λ (l : ℕ). fate_of (set fates link choice) l) is ∙ get_or-set_same fates link choice Denied inside

  may_use : (one other : Fate) (train : ℕ) → (Allows one train → Allows other train) → (l : ℕ) → MayUse (set fates link one) train l → MayUse (set fates link other) train l
  may_use one other train to l may = elim (cases_eq l link) [
    | inl is ↦ subst (λ (fate : Fate). Allows fate train) (sym (fate_at other l is)) (to (subst (λ (fate : Fate). Allows fate train) (fate_at one l is) may))
    | inr differ ↦ subst (λ (fate : Fate). Allows fate train) (get_or-set_other fates link l one Denied differ ∙ sym (get_or-set_other fates link l other Denied differ)) may
  ]

  worth_too : (one other : Fate) (train amount : ℕ) → (Allows one train → Allows other train) → (Allows other train → Allows one train)
      → IsWorth net (set fates link one) train amount → IsWorth net (set fates link other) train amount
  worth_too one other train amount to from found =
      (found.0, greatest_too net (set fates link one) (set fates link other) train found.0 (may_use one other train to) (may_use other one train from) found.1, found.2)

  -- a train whose own the link is in the case goes on as before the split; each other one as if the link were denied
  owner_in : (place train amount : ℕ) → train + 1 ≡ place → IsWorth net fates train amount → IsWorth net (set fates link (choice_at place)) train amount
  owner_in place train amount is found =
      worth_too Open (choice_at place) train amount (λ o. choice_open place train is) (λ o. tt)
      (subst (λ (fs : List Fate). IsWorth net fs train amount) (sym (set_back fates link opened)) found)

  owner_out : (place train amount : ℕ) → train + 1 ≡ place → IsWorth net (set fates link (choice_at place)) train amount → IsWorth net fates train amount
  owner_out place train amount is found =
      subst (λ (fs : List Fate). IsWorth net fs train amount) (set_back fates link opened)
      (worth_too (choice_at place) Open train amount (λ o. tt) (λ o. choice_open place train is) found)

  other_in : (place train amount : ℕ) → train + 1 ≢ place → IsWorth net (set fates link Denied) train amount → IsWorth net (set fates link (choice_at place)) train amount
  other_in place train amount differ = worth_too Denied (choice_at place) train amount (λ o. absurd o) (λ o. choice_closed place train differ o)

  other_out : (place train amount : ℕ) → train + 1 ≢ place → IsWorth net (set fates link (choice_at place)) train amount → IsWorth net (set fates link Denied) train amount
  other_out place train amount differ = worth_too (choice_at place) Denied train amount (λ o. choice_closed place train differ o) (λ o. absurd o)

  module _ (known without : List (Option ℕ)) (place : ℕ) (before : AreKnown net fates known) (denied : AreKnown net (set fates link Denied) without)
      (fits : place ≤ length net.trains) where
    same_length : length without ≡ length known
    same_length = denied.as_many ∙ sym before.as_many

    -- what is known in the case
    pub known_in_case : AreKnown net (set fates link (choice_at place)) (with_owner without known place)
    known_in_case = record {
      as_many = length-with_owner without known place ∙ denied.as_many;
      each = with_owner-each (IsWorth net (set fates link (choice_at place))) without known place (omega (arith, fits, denied.as_many))
          (λ train amount differ is. other_in place train amount differ (denied.each train amount is))
          (λ train amount same is. owner_in place train amount same (before.each train amount is));
    }

    module _ (child : List (Option ℕ)) (in_case : AreKnown net (set fates link (choice_at place)) child) where
      as_before : length (with_owner known without place) ≡ length net.trains
      as_before = length-with_owner known without place ∙ before.as_many

      -- and then before the split
      pub known_after : AreKnown net fates (with_owner (with_owner known without place) child place)
      known_after = record {
        as_many = length-with_owner (with_owner known without place) child place ∙ as_before;
        each = with_owner-each (IsWorth net fates) (with_owner known without place) child place (omega (arith, fits, as_before))
            (λ train amount differ is. with_owner-each (λ t n. t + 1 ≢ place → IsWorth net fates t n) known without place (omega (arith, fits, before.as_many))
            (λ t n other here out. before.each t n here) (λ t n same here out. absurd (out same)) train amount is differ)
            (λ train amount same is. owner_out place train amount same (in_case.each train amount is));
      }

      -- and where the link is denied
      pub denied_after : AreKnown net (set fates link Denied) (with_owner child (with_owner known without place) place)
      denied_after = record {
        as_many = length-with_owner child (with_owner known without place) place ∙ in_case.as_many;
        each = with_owner-each (IsWorth net (set fates link Denied)) child (with_owner known without place) place (omega (arith, fits, in_case.as_many))
            (λ train amount differ is. other_out place train amount differ (in_case.each train amount is))
            (λ train amount same is. with_owner-each (λ t n. t + 1 ≡ place → IsWorth net (set fates link Denied) t n) known without place (omega (arith, fits, before.as_many))
            (λ t n differ here out. absurd (differ out)) (λ t n own here out. denied.each t n here) train amount is same);
      }
