-- Each snapshot that stands is found, where both lists rise by table and count.
use Rattle.std.proofs.Common.{◌≡◌, inl, inr, ℕ, zero, suc, ◌<◌, Bool, true, false, List, [], ◌∷◌, length, map, Option, None, Some, refl, sym, ◌∙◌, ap, subst, arith}
use Rattle.std.specs.Prelude.{◌==◌, ◌&&◌, nat_lt, bytes_eq, if◌then◌else◌, slice_get, slice_index_or, Contains}
use Rattle.std.proofs.lemmas.Bool.{and_from, eq-eqb, false_from_ne_true, lt-ltb, ltb-true, or_cases, or_left, or_right, eqb-true, and_parts, cases_lt}
use Rattle.std.proofs.lemmas.Slice.Eq.{bytes_eq-Decides}
use Rattle.rr_checkpoint.specs.declared.plan.standing.StandingSnapshot.{StandingSnapshot}
use Rattle.rr_checkpoint.specs.Laws.{FindsAll, KeepsAll, LaysTheOthers, Rises}
use Rattle.rr_checkpoint.specs.Plan.Snapshots.{StandsBefore}
use Rattle.rr_checkpoint.specs.Plan.Standing.{StandsAs, behind, comes_before, from, if_same, is_same, kept_at, kept_snapshots, laid_at, laid_snapshots, left_by, place_of, places_of, standing_as}
use Rattle.rr_reading.specs.Worlds.World.{Snapshot}
use Rattle.rr_checkpoint.proofs.PlanLemmas.StandingLemmas.{places_long, same_snapshot, stands_as}

-- an element stands at a place
abbrev IsAt : {X : Type 0} → List X → X → Type 0
IsAt xs x = (k : ℕ) × (slice_get xs k ≡ Some x)

module _ {X : Type 0} where
  within_at : (xs : List X) (k : ℕ) (x : X) → slice_get xs k ≡ Some x → k < length xs
  within_at [] k x is = absurd (cc)
  within_at (first ∷ xs) zero x is = omega arith
  within_at (first ∷ xs) (suc k) x is = omega (arith, within_at xs k x is)

  index_at : (xs : List X) (k : ℕ) (x : X) → slice_get xs k ≡ Some x → slice_index_or xs k x ≡ x
  index_at [] k x is = absurd (cc)
  index_at (first ∷ xs) zero x is = cc
  index_at (first ∷ xs) (suc k) x is = index_at xs k x is

  at_index : (xs : List X) (k : ℕ) (x : X) → k < length xs → slice_index_or xs k x ≡ x → slice_get xs k ≡ Some x
  at_index [] k x within is = absurd (omega (arith, within))
  at_index (first ∷ xs) zero x within is = ap (λ (y : X). Some y) is
  at_index (first ∷ xs) (suc k) x within is = at_index xs k x (omega (arith, within)) is

  contained : (xs : List X) (x : X) → IsAt xs x → Contains xs x
  contained xs x at = (at.0, within_at xs at.0 x at.1, index_at xs at.0 x at.1)

  is_at : (xs : List X) (x : X) → Contains xs x → IsAt xs x
  is_at xs x has = (has.0, at_index xs has.0 x has.1 has.2)

  some_at : (xs : List X) (k : ℕ) → k < length xs → (x : X) × (slice_get xs k ≡ Some x)
  some_at [] k within = absurd (omega (arith, within))
  some_at (first ∷ xs) zero within = (first, refl)
  some_at (first ∷ xs) (suc k) within = some_at xs k (omega (arith, within))

-- where a snapshot stands
as_at : (standing : List StandingSnapshot) (k : ℕ) (there : StandingSnapshot) → slice_get standing k ≡ Some there → slice_get (map standing_as standing) k ≡ Some (standing_as there)
as_at [] k there is = absurd (cc)
as_at (first ∷ others) zero there is = let same : first ≡ there = cc in ap (λ (s : StandingSnapshot). Some (standing_as s)) same
as_at (first ∷ others) (suc k) there is = as_at others k there is

at_as : (standing : List StandingSnapshot) (k : ℕ) (snapshot : Snapshot) → slice_get (map standing_as standing) k ≡ Some snapshot → (there : StandingSnapshot) × (slice_get standing k ≡ Some there) × (standing_as there ≡ snapshot)
at_as [] k snapshot is = absurd (cc)
at_as (first ∷ others) zero snapshot is = let same : standing_as first ≡ snapshot = cc in (first, refl, same)
at_as (first ∷ others) (suc k) snapshot is = at_as others k snapshot is

-- the same as `Rises`, from the front on
abbrev Rising : List Snapshot → Type 0
Rising [] = Unit {0}
Rising (first ∷ others) = ((k : ℕ) (other : Snapshot) → slice_get others k ≡ Some other → StandsBefore first other) × Rising others

rising : (snapshots : List Snapshot) → Rises snapshots → Rising snapshots
rising [] rise = tt
rising (first ∷ others) rise = (
  λ k other is. subst (λ (s : Snapshot). StandsBefore first s) (index_at others k other is) (rise 0 (suc k) other (omega arith) (omega (arith, within_at others k other is))),
  rising others (λ i j d order within. rise (suc i) (suc j) d (omega (arith, order)) (omega (arith, within))),
)

-- the tests
says_before : (first other : Snapshot) → StandsBefore first other → comes_before first other ≡ true
says_before first other before =
    let earlier = nat_lt first.table other.table in
    let fewer = first.table == other.table && nat_lt first.kept other.kept in
    elim (cases_lt first.table other.table) [
      | inl less ↦ or_left earlier fewer (lt-ltb first.table other.table less)
      | inr past ↦
          let same : first.table ≡ other.table = omega (arith, past, before.0) in
          or_right earlier fewer (and_from (first.table == other.table) (nat_lt first.kept other.kept) (eq-eqb first.table other.table same) (lt-ltb first.kept other.kept (before.1 same)))
    ]

is_before : (first other : Snapshot) → comes_before first other ≡ true → StandsBefore first other
is_before first other says = elim (or_cases (nat_lt first.table other.table) (first.table == other.table && nat_lt first.kept other.kept) says) [
  | inl earlier ↦
      let less = ltb-true first.table other.table earlier in
      (omega (arith, less), λ same. absurd (omega (arith, less, same)))
  | inr fewer ↦
      let parts = and_parts (first.table == other.table) (nat_lt first.kept other.kept) fewer in
      let same = eqb-true first.table other.table parts.0 in
      let less = ltb-true first.kept other.kept parts.1 in
      (omega (arith, same), λ _. less)
]

never_both : (first other : Snapshot) → StandsBefore first other → StandsBefore other first → ⊥
never_both first other before after =
    let same : first.table ≡ other.table = omega (arith, before.0, after.0) in
    omega (arith, before.1 same, after.1 (sym same))

never_itself : (snapshot : Snapshot) → StandsBefore snapshot snapshot → ⊥
never_itself snapshot before = omega (arith, before.1 refl)

says_not : (first other : Snapshot) → (StandsBefore first other → ⊥) → comes_before first other ≡ false
says_not first other never = false_from_ne_true (comes_before first other) (λ says. never (is_before first other says))

says_same : (snapshot : Snapshot) → is_same snapshot snapshot ≡ true
says_same snapshot =
    let table = eq-eqb snapshot.table snapshot.table refl in
    let kept = eq-eqb snapshot.kept snapshot.kept refl in
    let bytes = (bytes_eq-Decides snapshot.bytes snapshot.bytes).1 refl in
    and_from (snapshot.table == snapshot.table && snapshot.kept == snapshot.kept) (bytes_eq snapshot.bytes snapshot.bytes)
    (and_from (snapshot.table == snapshot.table) (snapshot.kept == snapshot.kept) table kept) bytes

-- one that stands is found
found_first : (first : StandingSnapshot) (others : List StandingSnapshot) → place_of (first ∷ others) (standing_as first) ≡ Some first
found_first first others =
    ap (λ (before : Bool). if_same (standing_as first) (if before then from (standing_as first) others else first ∷ others)) (says_not (standing_as first) (standing_as first) (never_itself (standing_as first)))
    ∙ ap (λ (same : Bool). if same then Some first else None) (says_same (standing_as first))

found : (standing : List StandingSnapshot) (k : ℕ) (there : StandingSnapshot) → Rising (map standing_as standing) → slice_get standing k ≡ Some there → place_of standing (standing_as there) ≡ Some there
found [] k there rise at = absurd (cc)
found (first ∷ others) zero there rise at =
    let same : first ≡ there = cc in
    subst (λ (s : StandingSnapshot). place_of (first ∷ others) (standing_as s) ≡ Some s) same (found_first first others)
found (first ∷ others) (suc k) there rise at =
    let before = says_before (standing_as first) (standing_as there) (rise.0 k (standing_as there) (as_at others k there at)) in
    ap (λ (before : Bool). if_same (standing_as there) (if before then from (standing_as there) others else first ∷ others)) before
    ∙ found others k there rise.1 at

-- what stands from a snapshot on
module _ (snapshot : Snapshot) (first : StandingSnapshot) (others : List StandingSnapshot) where
  still_if : (before : Bool) (k : ℕ) (there : StandingSnapshot) → comes_before (standing_as first) snapshot ≡ before → comes_before (standing_as there) snapshot ≡ false → slice_get (first ∷ others) k ≡ Some there
      → ((m : ℕ) → slice_get others m ≡ Some there → IsAt (from snapshot others) there) → IsAt (if before then from snapshot others else first ∷ others) there
  still_if false k there is not at rest = (k, at)
  still_if true zero there is not at rest = let same : first ≡ there = cc in absurd (cc (is, not, ap (λ (s : StandingSnapshot). comes_before (standing_as s) snapshot) same))
  still_if true (suc k) there is not at rest = rest k at

  far_if : (before : Bool) (m : ℕ) (there : StandingSnapshot) → slice_get (if before then from snapshot others else first ∷ others) m ≡ Some there → (slice_get (from snapshot others) m ≡ Some there → IsAt others there) → IsAt (first ∷ others) there
  far_if false m there at rest = (m, at)
  far_if true m there at rest = let far = rest at in (suc far.0, far.1)

  rising_if : (before : Bool) → Rising (map standing_as (first ∷ others)) → Rising (map standing_as (from snapshot others)) → Rising (map standing_as (if before then from snapshot others else first ∷ others))
  rising_if false rise rest = rise
  rising_if true rise rest = rest

  -- and behind it
  left_if : (same : Bool) (m : ℕ) (there : StandingSnapshot) → is_same (standing_as first) snapshot ≡ same → StandsBefore snapshot (standing_as there) → slice_get (first ∷ others) m ≡ Some there → IsAt (behind (if same then Some first else None) (first ∷ others)) there
  left_if false m there is before at = (m, at)
  left_if true zero there is before at =
      let same : first ≡ there = cc in
      let it : standing_as there ≡ snapshot = ap standing_as (sym same) ∙ same_snapshot (standing_as first) snapshot is in
      absurd (never_itself snapshot (subst (λ (s : Snapshot). StandsBefore snapshot s) it before))
  left_if true (suc m) there is before at = (m, at)

  behind_if : (same : Bool) (m : ℕ) (there : StandingSnapshot) → slice_get (behind (if same then Some first else None) (first ∷ others)) m ≡ Some there → IsAt (first ∷ others) there
  behind_if false m there at = (m, at)
  behind_if true m there at = (suc m, at)

  rising_behind : (same : Bool) → Rising (map standing_as (first ∷ others)) → Rising (map standing_as (behind (if same then Some first else None) (first ∷ others)))
  rising_behind false rise = rise
  rising_behind true rise = rise.1

  first_if : (same : Bool) (there : StandingSnapshot) → (if same then Some first else None) ≡ Some there → first ≡ there
  first_if false there is = absurd (cc)
  first_if true there is = cc

still : (snapshot : Snapshot) (standing : List StandingSnapshot) (k : ℕ) (there : StandingSnapshot) → comes_before (standing_as there) snapshot ≡ false → slice_get standing k ≡ Some there → IsAt (from snapshot standing) there
still snapshot [] k there not at = absurd (cc)
still snapshot (first ∷ others) k there not at =
    still_if snapshot first others (comes_before (standing_as first) snapshot) k there refl not at (λ m in_others. still snapshot others m there not in_others)

far : (snapshot : Snapshot) (standing : List StandingSnapshot) (m : ℕ) (there : StandingSnapshot) → slice_get (from snapshot standing) m ≡ Some there → IsAt standing there
far snapshot [] m there at = absurd (cc)
far snapshot (first ∷ others) m there at = far_if snapshot first others (comes_before (standing_as first) snapshot) m there at (λ in_others. far snapshot others m there in_others)

rising_from : (snapshot : Snapshot) (standing : List StandingSnapshot) → Rising (map standing_as standing) → Rising (map standing_as (from snapshot standing))
rising_from snapshot [] rise = rise
rising_from snapshot (first ∷ others) rise = rising_if snapshot first others (comes_before (standing_as first) snapshot) rise (rising_from snapshot others rise.1)

left_here : (snapshot : Snapshot) (standing : List StandingSnapshot) (m : ℕ) (there : StandingSnapshot) → StandsBefore snapshot (standing_as there) → slice_get standing m ≡ Some there → IsAt (behind (if_same snapshot standing) standing) there
left_here snapshot [] m there before at = absurd (cc)
left_here snapshot (first ∷ others) m there before at = left_if snapshot first others (is_same (standing_as first) snapshot) m there refl before at

behind_here : (snapshot : Snapshot) (standing : List StandingSnapshot) (m : ℕ) (there : StandingSnapshot) → slice_get (behind (if_same snapshot standing) standing) m ≡ Some there → IsAt standing there
behind_here snapshot [] m there at = absurd (cc)
behind_here snapshot (first ∷ others) m there at = behind_if snapshot first others (is_same (standing_as first) snapshot) m there at

rising_here : (snapshot : Snapshot) (standing : List StandingSnapshot) → Rising (map standing_as standing) → Rising (map standing_as (behind (if_same snapshot standing) standing))
rising_here snapshot [] rise = rise
rising_here snapshot (first ∷ others) rise = rising_behind snapshot first others (is_same (standing_as first) snapshot) rise

first_here : (snapshot : Snapshot) (standing : List StandingSnapshot) (there : StandingSnapshot) → if_same snapshot standing ≡ Some there → IsAt standing there
first_here snapshot [] there is = absurd (cc)
first_here snapshot (first ∷ others) there is = (0, ap (λ (s : StandingSnapshot). Some s) (first_if snapshot first others (is_same (standing_as first) snapshot) there is))

-- one that comes behind a snapshot is left for the next ones
left : (snapshot : Snapshot) (standing : List StandingSnapshot) (k : ℕ) (there : StandingSnapshot) → StandsBefore snapshot (standing_as there) → slice_get standing k ≡ Some there → IsAt (left_by standing snapshot) there
left snapshot standing k there before at =
    let on = still snapshot standing k there (says_not (standing_as there) snapshot (λ after. never_both (standing_as there) snapshot after before)) at in
    left_here snapshot (from snapshot standing) on.0 there before on.1

-- each snapshot's place is that of the one that is it
found_at : (standing : List StandingSnapshot) (snapshots : List Snapshot) (k n : ℕ) (there : StandingSnapshot) → Rising (map standing_as standing) → Rising snapshots → slice_get standing k ≡ Some there → slice_get snapshots n ≡ Some (standing_as there)
    → slice_get (places_of standing snapshots) n ≡ Some (Some there)
found_at standing [] k n there stand rise at is = absurd (cc)
found_at standing (snapshot ∷ snapshots) k zero there stand rise at is =
    let same : snapshot ≡ standing_as there = cc in
    ap (λ (place : Option StandingSnapshot). Some place) (ap (λ (s : Snapshot). place_of standing s) same ∙ found standing k there stand at)
found_at standing (snapshot ∷ snapshots) k (suc n) there stand rise at is =
    let on = left snapshot standing k there (rise.0 n (standing_as there) is) at in
    found_at (left_by standing snapshot) snapshots on.0 n there (rising_here snapshot (from snapshot standing) (rising_from snapshot standing stand)) rise.1 on.1 is

found_only : (standing : List StandingSnapshot) (snapshots : List Snapshot) (n : ℕ) (there : StandingSnapshot) → slice_get (places_of standing snapshots) n ≡ Some (Some there) → IsAt standing there × (slice_get snapshots n ≡ Some (standing_as there))
found_only standing [] n there is = absurd (cc)
found_only standing (snapshot ∷ snapshots) zero there is =
    let place : place_of standing snapshot ≡ Some there = cc in
    let on = first_here snapshot (from snapshot standing) there place in
    let same : standing_as there ≡ snapshot = subst (λ (at : Option StandingSnapshot). StandsAs snapshot at) place (stands_as snapshot (from snapshot standing)) in
    (far snapshot standing on.0 there on.1, ap (λ (s : Snapshot). Some s) (sym same))
found_only standing (snapshot ∷ snapshots) (suc n) there is =
    let rest = found_only (left_by standing snapshot) snapshots n there is in
    let on = behind_here snapshot (from snapshot standing) rest.0.0 there rest.0.1 in
    (far snapshot standing on.0 there on.1, rest.1)

pub finds_all : FindsAll
finds_all standing snapshots stand rise n there = (
  λ is. let both = found_only standing snapshots n there is in (contained standing there both.0, both.1),
  λ both. let at = is_at standing there both.0 in found_at standing snapshots at.0 n there (rising (map standing_as standing) stand) (rising snapshots rise) at.1 both.1,
)

-- those that stay, and those that are laid
kept_has : (places : List (Option StandingSnapshot)) (n : ℕ) (there : StandingSnapshot) → slice_get places n ≡ Some (Some there) → IsAt (kept_at places) there
kept_has [] n there is = absurd (cc)
kept_has (None ∷ places) zero there is = absurd (cc)
kept_has (None ∷ places) (suc n) there is = kept_has places n there is
kept_has (Some first ∷ places) zero there is = let same : first ≡ there = cc in (0, ap (λ (s : StandingSnapshot). Some s) same)
kept_has (Some first ∷ places) (suc n) there is = let rest = kept_has places n there is in (suc rest.0, rest.1)

kept_only : (places : List (Option StandingSnapshot)) (m : ℕ) (there : StandingSnapshot) → slice_get (kept_at places) m ≡ Some there → IsAt places (Some there)
kept_only [] m there at = absurd (cc)
kept_only (None ∷ places) m there at = let rest = kept_only places m there at in (suc rest.0, rest.1)
kept_only (Some first ∷ places) zero there at = let same : first ≡ there = cc in (0, ap (λ (s : StandingSnapshot). Some (Some s)) same)
kept_only (Some first ∷ places) (suc m) there at = let rest = kept_only places m there at in (suc rest.0, rest.1)

laid_has : (places : List (Option StandingSnapshot)) (snapshots : List Snapshot) (n : ℕ) (snapshot : Snapshot) → slice_get places n ≡ Some None → slice_get snapshots n ≡ Some snapshot → IsAt (laid_at places snapshots) snapshot
laid_has [] snapshots n snapshot none is = absurd (cc)
laid_has (place ∷ places) [] n snapshot none is = absurd (cc)
laid_has (None ∷ places) (first ∷ snapshots) zero snapshot none is = let same : first ≡ snapshot = cc in (0, ap (λ (s : Snapshot). Some s) same)
laid_has (None ∷ places) (first ∷ snapshots) (suc n) snapshot none is = let rest = laid_has places snapshots n snapshot none is in (suc rest.0, rest.1)
laid_has (Some there ∷ places) (first ∷ snapshots) zero snapshot none is = absurd (cc)
laid_has (Some there ∷ places) (first ∷ snapshots) (suc n) snapshot none is = laid_has places snapshots n snapshot none is

laid_only : (places : List (Option StandingSnapshot)) (snapshots : List Snapshot) (m : ℕ) (snapshot : Snapshot) → slice_get (laid_at places snapshots) m ≡ Some snapshot → (n : ℕ) × (slice_get places n ≡ Some None) × (slice_get snapshots n ≡ Some snapshot)
laid_only [] snapshots m snapshot at = absurd (cc)
laid_only (place ∷ places) [] m snapshot at = absurd (cc)
laid_only (None ∷ places) (first ∷ snapshots) zero snapshot at = (0, refl, at)
laid_only (None ∷ places) (first ∷ snapshots) (suc m) snapshot at = let rest = laid_only places snapshots m snapshot at in (suc rest.0, rest.1, rest.2)
laid_only (Some there ∷ places) (first ∷ snapshots) m snapshot at = let rest = laid_only places snapshots m snapshot at in (suc rest.0, rest.1, rest.2)

pub keeps_all : KeepsAll
keeps_all standing snapshots stand rise there = (
  λ stays.
      let here = is_at (kept_snapshots standing snapshots) there stays in
      let place = kept_only (places_of standing snapshots) here.0 there here.1 in
      let both = found_only standing snapshots place.0 there place.1 in
      (contained standing there both.0, contained snapshots (standing_as there) (place.0, both.1)),
  λ both.
      let at = is_at standing there both.0 in
      let is = is_at snapshots (standing_as there) both.1 in
      let place = found_at standing snapshots at.0 is.0 there (rising (map standing_as standing) stand) (rising snapshots rise) at.1 is.1 in
      contained (kept_snapshots standing snapshots) there (kept_has (places_of standing snapshots) is.0 there place),
)

-- a snapshot that doesn't stand has no place
laid_there : (standing : List StandingSnapshot) (snapshots : List Snapshot) (n : ℕ) (snapshot : Snapshot) (place : Option StandingSnapshot) → slice_get (places_of standing snapshots) n ≡ Some place → slice_get snapshots n ≡ Some snapshot → (Contains (map standing_as standing) snapshot → ⊥)
    → IsAt (laid_snapshots standing snapshots) snapshot
laid_there standing snapshots n snapshot None place is never = laid_has (places_of standing snapshots) snapshots n snapshot place is
laid_there standing snapshots n snapshot (Some there) place is never =
    let both = found_only standing snapshots n there place in
    let same : standing_as there ≡ snapshot = cc (both.1, is) in
    absurd (never (contained (map standing_as standing) snapshot (both.0.0, as_at standing both.0.0 there both.0.1 ∙ ap (λ (s : Snapshot). Some s) same)))

pub lays_the_others : LaysTheOthers
lays_the_others standing snapshots stand rise snapshot = (
  λ laid.
      let here = is_at (laid_snapshots standing snapshots) snapshot laid in
      let only = laid_only (places_of standing snapshots) snapshots here.0 snapshot here.1 in
      (contained snapshots snapshot (only.0, only.2), never only.0 only.1 only.2),
  λ both.
      let is = is_at snapshots snapshot both.0 in
      let place = some_at (places_of standing snapshots) is.0 (omega (arith, within_at snapshots is.0 snapshot is.1, places_long standing snapshots)) in
      contained (laid_snapshots standing snapshots) snapshot (laid_there standing snapshots is.0 snapshot place.0 place.1 is.1 both.1),
)
  where
    never : (n : ℕ) → slice_get (places_of standing snapshots) n ≡ Some None → slice_get snapshots n ≡ Some snapshot → Contains (map standing_as standing) snapshot → ⊥
    never n none is stands =
        let at = is_at (map standing_as standing) snapshot stands in
        let there = at_as standing at.0 snapshot at.1 in
        let place = found_at standing snapshots at.0 n there.0 (rising (map standing_as standing) stand) (rising snapshots rise) there.1 (is ∙ ap (λ (s : Snapshot). Some s) (sym there.2)) in
        cc (none, place)
