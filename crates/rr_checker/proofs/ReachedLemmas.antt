-- The centres that steps with a mark end at, of a ranked list.
use Rattle.std.proofs.Common.{◌≡◌, ℕ, ◌≤◌, ◌⊎◌, ◌↔◌, ◌==◌, ◌&&◌, Bool, true, false, cond, Option, Some, None, List, [], ◌∷◌, length, get_or, refl, sym, ◌∙◌, ap, subst, inl, inr}
use Rattle.std.specs.Bool.{Decides}
use Rattle.std.specs.List.{AllByRecursion, Contains, filter, list_any, slice_get}
use Rattle.std.proofs.lemmas.Bool.{false≢true}
use Rattle.std.proofs.lemmas.Bool.Decides.{Decides-and, Decides-like, Decides-or}
use Rattle.std.proofs.lemmas.Option.{get_or_from_slice_get, slice_get_read, slice_get_within}
use Rattle.rr_routes.specs.declared.net.Node.TheVariants.{Centre}
use Rattle.rr_routes.specs.Net.{Net, value}
use Rattle.rr_routes.specs.Routes.{NoneTwice}
use Rattle.rr_routes.specs.Greatest.{IsDescending}
use Rattle.rr_routes.specs.Reachability.Index.{IsIndexOf, noted_at}
use Rattle.rr_routes.specs.Reachability.Reach.{IsMarked}
use Rattle.rr_routes.proofs.Elements.{Contains-here, Contains-there, Contains-cases, Contains-nil}
use Rattle.rr_checker.specs.declared.step.Step.{Step}
use Rattle.rr_checker.specs.Index.{node_key}
use Rattle.rr_checker.specs.Steps.{same_node}
use Rattle.rr_checker.specs.Ranked.{EndsAtCentre, IsRankingOf, MarkedToCentre, arrives, ends_marked, is_reached}
use Rattle.rr_checker.specs.Searching.{ArrivesAt, arrives_at}
use Rattle.rr_checker.proofs.StepLemmas.{yes, to_true, Decides-among, Decides-list_any, Decides-never, Decides-same_node}

-- what a filter keeps

kept : (b : Bool) (x z : ℕ) (ys : List ℕ) → Contains (cond b (x ∷ ys) ys) z ↔ (((b ≡ true) × (x ≡ z)) ⊎ Contains ys z)
kept true x z ys = (
  λ c. elim (Contains-cases x ys z c) [ inl is ↦ inl (refl, is) | inr later ↦ inr later ],
  λ d. elim d [ inl both ↦ subst (λ e. Contains (x ∷ ys) e) both.1 (Contains-here x ys) | inr later ↦ Contains-there x ys z later ],
)
kept false x z ys = (λ c. inr c, λ d. elim d [ inl both ↦ absurd (false≢true both.0) | inr later ↦ later ])

Contains-filter : (p : ℕ → Bool) (xs : List ℕ) (z : ℕ) → Contains (filter p xs) z ↔ (Contains xs z × (p z ≡ true))
Contains-filter p [] z = (λ c. absurd (Contains-nil z c), λ d. absurd (Contains-nil z d.0))
Contains-filter p (x ∷ xs) z =
    let here = kept (p x) x z (filter p xs) in
    let later = Contains-filter p xs z in (
      λ c. elim (here.0 c) [
        | inl both ↦ (subst (λ e. Contains (x ∷ xs) e) both.1 (Contains-here x xs), subst (λ e. p e ≡ true) both.1 both.0)
        | inr behind ↦ let d = later.0 behind in (Contains-there x xs z d.0, d.1)
      ],
      λ d. here.1 (elim (Contains-cases x xs z d.0) [
        | inl is ↦ inl (subst (λ e. p e ≡ true) (sym is) d.1, is)
        | inr behind ↦ inr (later.1 (behind, d.1))
      ]),
    )

NoneTwice-kept : (b : Bool) (x : ℕ) (ys : List ℕ) → (Contains ys x → ⊥) → NoneTwice ys → NoneTwice (cond b (x ∷ ys) ys)
NoneTwice-kept true x ys out none = (out, none)
NoneTwice-kept false x ys out none = none

NoneTwice-filter : (p : ℕ → Bool) (xs : List ℕ) → NoneTwice xs → NoneTwice (filter p xs)
NoneTwice-filter p [] none = tt
NoneTwice-filter p (x ∷ xs) none =
    NoneTwice-kept (p x) x (filter p xs) (λ c. none.0 ((Contains-filter p xs x).0 c).0) (NoneTwice-filter p xs none.1)

All-kept : (P : ℕ → Type 0) (b : Bool) (x : ℕ) (ys : List ℕ) → P x → AllByRecursion P ys → AllByRecursion P (cond b (x ∷ ys) ys)
All-kept P true x ys first all = (first, all)
All-kept P false x ys first all = all

All-filter : (P : ℕ → Type 0) (p : ℕ → Bool) (xs : List ℕ) → AllByRecursion P xs → AllByRecursion P (filter p xs)
All-filter P p [] all = tt
All-filter P p (x ∷ xs) all = All-kept P (p x) x (filter p xs) all.0 (All-filter P p xs all.1)

IsDescending-kept : (f : ℕ → ℕ) (b : Bool) (x : ℕ) (ys : List ℕ) → AllByRecursion (λ y. f y ≤ f x) ys → IsDescending f ys → IsDescending f (cond b (x ∷ ys) ys)
IsDescending-kept f true x ys less falls = (less, falls)
IsDescending-kept f false x ys less falls = falls

IsDescending-filter : (f : ℕ → ℕ) (p : ℕ → Bool) (xs : List ℕ) → IsDescending f xs → IsDescending f (filter p xs)
IsDescending-filter f p [] falls = tt
IsDescending-filter f p (x ∷ xs) falls =
    IsDescending-kept f (p x) x (filter p xs) (All-filter (λ y. f y ≤ f x) p xs falls.0) (IsDescending-filter f p xs falls.1)

-- of a ranked list those that pass a test are the ranked list of these
pub filter_ranked : (net : Net) (P Q : ℕ → Type 0) (test : ℕ → Bool) (ranked : List ℕ) → ((centre : ℕ) → Decides (test centre) (Q centre))
    → ((centre : ℕ) → Q centre → P centre) → IsRankingOf net P ranked → IsRankingOf net Q (filter test ranked)
filter_ranked net P Q test ranked tells inside r = record {
  in_order = record {
    none_twice = NoneTwice-filter test ranked r.in_order.none_twice;
    greatest_first = IsDescending-filter (value net) test ranked r.in_order.greatest_first;
  };
  exact = λ centre. (
    λ c. yes (tells centre) ((Contains-filter test ranked centre).0 c).1,
    λ q. (Contains-filter test ranked centre).1 ((r.exact centre).1 (inside centre q), to_true (test centre) (tells centre) q),
  );
}

-- a step at the place has a mark and ends at the centre
IsMarkedTo : List Bool → ℕ → ℕ → Option Step → Type 0
IsMarkedTo marks centre place o = (step : Step) × (o ≡ Some step) × (IsMarked marks place × (step.to ≡ Centre centre))

Decides-marked : (marks : List Bool) (place : ℕ) → Decides (get_or marks place false) (IsMarked marks place)
Decides-marked marks place = (λ e. e, λ m. m)

Decides-ends_marked : (marks : List Bool) (centre place : ℕ) (o : Option Step) → Decides (ends_marked marks centre place o) (IsMarkedTo marks centre place o)
unfolding IsMarkedTo
Decides-ends_marked marks centre place None = Decides-never (λ found. let e = found.1 in cc)
Decides-ends_marked marks centre place (Some step) =
    Decides-like (get_or marks place false && same_node step.to (Centre centre)) (λ both. (step, refl, both))
    (λ found. let is : found.0 ≡ step = cc in (found.2.0, subst (λ (s : Step). s.to ≡ Centre centre) is found.2.1))
    (Decides-and (get_or marks place false) (same_node step.to (Centre centre)) (Decides-marked marks place) (Decides-same_node step.to (Centre centre)))

module _ (steps : List Step) (marks : List Bool) where
  -- of the steps that are noted at the centre's key one with a mark ends there, or none of all does
  pub Decides-arrives : (index : List (List ℕ)) (centre : ℕ) → IsIndexOf (ArrivesAt steps (length steps)) index
      → Decides (list_any (arrives steps marks centre) (noted_at index centre)) (MarkedToCentre steps marks centre)
  unfolding IsMarkedTo
  Decides-arrives index centre ix =
      Decides-like (list_any (arrives steps marks centre) (noted_at index centre)) to back
      (Decides-list_any (arrives steps marks centre) (λ place. IsMarkedTo marks centre place (slice_get steps place)) (noted_at index centre)
      (λ place c. Decides-ends_marked marks centre place (slice_get steps place)))
    where
      to : (place : ℕ) × Contains (noted_at index centre) place × IsMarkedTo marks centre place (slice_get steps place) → MarkedToCentre steps marks centre
      to found =
          let place = found.0 in
          let at = found.2 in
          (at.0, record { place = place; inside = slice_get_within steps place at.0 at.1; here = get_or_from_slice_get steps place at.0 at.0 at.1; marked = at.2.0 }, at.2.1)

      back : MarkedToCentre steps marks centre → (place : ℕ) × Contains (noted_at index centre) place × IsMarkedTo marks centre place (slice_get steps place)
      back found =
          let step = found.0 in
          let h = found.1 in (
            h.place,
            ix.complete centre h.place (h.inside, λ d. ap (λ (s : Step). arrives_at s) (get_or_from_slice_get steps h.place step d (slice_get_read steps (length steps) h.place step refl h.inside (sym h.here))) ∙ ap node_key found.2),
            (step, slice_get_read steps (length steps) h.place step refl h.inside (sym h.here), (h.marked, found.2)),
          )

  -- a centre is reached where it has a token or a marked step ends there
  pub Decides-reached : (net : Net) (index : List (List ℕ)) (centre : ℕ) → IsIndexOf (ArrivesAt steps (length steps)) index
      → Decides (is_reached net steps index marks centre) (Contains net.tokens centre ⊎ MarkedToCentre steps marks centre)
  Decides-reached net index centre ix =
      Decides-or (list_any (λ token. token == centre) net.tokens) (list_any (arrives steps marks centre) (noted_at index centre))
      (Decides-among net.tokens centre) (Decides-arrives index centre ix)

  -- of the ranked list of all centres those that are reached are the ranked list of these
  pub reached_ranked : (net : Net) (index : List (List ℕ)) (all those : List ℕ) → IsIndexOf (ArrivesAt steps (length steps)) index
      → IsRankingOf net (λ centre. Contains net.tokens centre ⊎ EndsAtCentre steps centre) all → those ≡ filter (is_reached net steps index marks) all
      → IsRankingOf net (λ centre. Contains net.tokens centre ⊎ MarkedToCentre steps marks centre) those
  reached_ranked net index all those ix r is =
      rw is (filter_ranked net (λ centre. Contains net.tokens centre ⊎ EndsAtCentre steps centre) (λ centre. Contains net.tokens centre ⊎ MarkedToCentre steps marks centre)
      (is_reached net steps index marks) all (λ centre. Decides-reached net index centre ix)
      (λ centre d. elim d [
        | inl token ↦ inl token
        | inr found ↦ let h = found.1 in inr (found.0, (h.place, h.inside, h.here), found.2)
      ]) r)
