-- The snapshots that a table has, behind each request, and how near the nearest is.
use Rattle.std.proofs.Common.{◌≡◌, ℕ, zero, suc, ◌+◌, ◌<◌, ◌≤◌, Bool, true, false, List, [], ◌∷◌, ◌++◌, length, take, map, Option, None, Some, get_or, option_to_list, refl, sym, ap, subst, ◌∙◌, arith, append-nil, length-append, if◌then◌else◌}
use Rattle.std.specs.List.{filter}
use Rattle.std.specs.Option.{option_map_or}
use Rattle.std.proofs.lemmas.List.{get_or-append-add, get_or-take, get_or_append_left, length-map, length-take-le, map-append}
use Rattle.rr_turns.specs.Ends.{kept_at}
use Rattle.rr_game.specs.declared.game.Game.{Game}
use Rattle.rr_game.specs.declared.history.snapshots.TheConstants.{SNAPSHOT_SPACING}
use Rattle.rr_game.specs.History.Snapshots.{AreNamed, IsNearest, is_between, is_spaced, least_named, named_counts, snapshot_due}
use Rattle.rr_game.proofs.HistoryLemmas.Counts.{kept_above, kept_below, least-below, least-near, least-rises, map-filter, named_more, nearest_named, opening_named}

-- the counts of those that stay, with one more

due_counts : (game : Game) → map (λ (g : Game). g.played) (option_to_list (snapshot_due game)) ≡ (if is_spaced game.played then game.played ∷ [] else [])
due_counts game = step (is_spaced game.played)
  where
    step : (b : Bool) → map (λ (g : Game). g.played) (option_to_list (if b then Some game else None)) ≡ (if b then game.played ∷ [] else [])
    step true = refl
    step false = refl

stay_counts : (least most : ℕ) (snapshots added : List Game)
    → map (λ (g : Game). g.played) (filter (λ (g : Game). is_between least most g.played) snapshots ++ added)
    ≡ filter (is_between least most) (map (λ (g : Game). g.played) snapshots) ++ map (λ (g : Game). g.played) added
stay_counts least most snapshots added =
    let f : Game → ℕ = λ g. g.played in
    map-append f (filter (λ (g : Game). is_between least most g.played) snapshots) added
    ∙ ap (λ (ks : List ℕ). ks ++ map f added) (map-filter f (is_between least most) snapshots)

-- behind a command

pub play_named : (snapshots : List Game) (ends more : List ℕ) (floor n : ℕ) (game : Game) → AreNamed snapshots ends floor n → kept_at ends floor ≤ n → game.played ≡ n + 1
    → AreNamed (filter (λ (g : Game). is_between 0 n g.played) snapshots ++ option_to_list (snapshot_due game)) (ends ++ more) floor (n + 1)
play_named snapshots ends more floor n game named low played =
    let here : kept_at (ends ++ more) floor ≡ kept_at ends floor = get_or_append_left ends more 0 floor named.floored in
    let lo = least_named (kept_at ends floor) in
    let few : lo ≤ n + 1 = omega (arith, low, least-below (kept_at ends floor)) in
    let f : Game → ℕ = λ g. g.played in
    record {
      floored = omega (arith, named.floored, length-append ends more);
      counts =
          stay_counts 0 n snapshots (option_to_list (snapshot_due game))
          ∙ ap (λ (ks : List ℕ). filter (is_between 0 n) ks ++ map f (option_to_list (snapshot_due game))) named.counts
          ∙ ap (λ (ks : List ℕ). ks ++ map f (option_to_list (snapshot_due game))) (kept_below lo n n (omega arith))
          ∙ ap (λ (ks : List ℕ). named_counts lo n ++ ks) (due_counts game)
          ∙ ap (λ (k : ℕ). named_counts lo n ++ (if is_spaced k then k ∷ [] else [])) played
          ∙ sym (named_more lo n few)
          ∙ ap (λ (k : ℕ). named_counts (least_named k) (n + 1)) (sym here);
    }

-- behind a request that takes the table back

pub back_named : (snapshots : List Game) (ends : List ℕ) (floor n k : ℕ) → AreNamed snapshots ends floor n → floor ≤ k → k < length ends → kept_at ends k ≤ n
    → AreNamed (filter (λ (g : Game). is_between 0 (kept_at ends k) g.played) snapshots ++ []) (take (k + 1) ends) floor (kept_at ends k)
back_named snapshots ends floor n k named above ended low =
    let here : kept_at (take (k + 1) ends) floor ≡ kept_at ends floor = get_or-take (k + 1) ends floor 0 (omega (arith, above)) in
    let lo = least_named (kept_at ends floor) in
    let long : length (take (k + 1) ends) ≡ k + 1 = length-take-le (k + 1) ends (omega (arith, ended)) in
    record {
      floored = omega (arith, long, above);
      counts =
          stay_counts 0 (kept_at ends k) snapshots []
          ∙ append-nil (filter (is_between 0 (kept_at ends k)) (map (λ (g : Game). g.played) snapshots))
          ∙ ap (filter (is_between 0 (kept_at ends k))) named.counts
          ∙ kept_below lo (kept_at ends k) n low
          ∙ ap (λ (c : ℕ). named_counts (least_named c) (kept_at ends k)) (sym here);
    }

-- behind one that forgets

pub floor_named : (snapshots : List Game) (ends : List ℕ) (floor n k : ℕ) → AreNamed snapshots ends floor n → k < length ends → kept_at ends floor ≤ kept_at ends k
    → AreNamed (filter (λ (g : Game). is_between (least_named (kept_at ends k)) n g.played) snapshots) ends k n
floor_named snapshots ends floor n k named ended rises =
    let least = least_named (kept_at ends k) in
    record {
      floored = ended;
      counts =
          map-filter (λ (g : Game). g.played) (is_between least n) snapshots
          ∙ ap (filter (is_between least n)) named.counts
          ∙ kept_above (least_named (kept_at ends floor)) least n (least-rises (kept_at ends floor) (kept_at ends k) rises);
    }

pub forget_named : (snapshots : List Game) (ends : List ℕ) (floor n k : ℕ) → AreNamed snapshots ends floor n → k < length ends → kept_at ends floor ≤ kept_at ends k
    → AreNamed (filter (λ (g : Game). is_between (least_named (kept_at ends k)) n g.played) snapshots ++ []) ends k n
forget_named snapshots ends floor n k named ended rises =
    let stay = filter (λ (g : Game). is_between (least_named (kept_at ends k)) n g.played) snapshots in
    subst (λ (gs : List Game). AreNamed gs ends k n) (sym (append-nil stay)) (floor_named snapshots ends floor n k named ended rises)

-- at the opening

pub open_named : (ends : List ℕ) → 0 < length ends → AreNamed [] ends 0 1
open_named ends some = record { floored = some; counts = sym (opening_named (least_named (kept_at ends 0))) }

-- fewer commands than the spacing stand behind the nearest

get_or-map : (gs : List Game) (i : ℕ) (d : Game) → i < length gs → (get_or gs i d).played ≡ get_or (map (λ (g : Game). g.played) gs) i 0
get_or-map [] i d within = absurd (omega (arith, within))
get_or-map (g ∷ gs) zero d within = refl
get_or-map (g ∷ gs) (suc i) d within = get_or-map gs i d (omega (arith, within))

at_named : (gs : List Game) (front rest : List ℕ) (m : ℕ) (d : Game) → map (λ (g : Game). g.played) gs ≡ front ++ m ∷ rest
    → (length front < length gs) × ((get_or gs (length front) d).played ≡ m)
at_named gs front rest m d is =
    let long : length (map (λ (g : Game). g.played) gs) ≡ length front + length (m ∷ rest) = ap length is ∙ length-append front (m ∷ rest) in
    let within : length front < length gs = omega (arith, long, length-map gs (λ (g : Game). g.played)) in
    let same : length front + 0 ≡ length front = omega arith in (
      within,
      get_or-map gs (length front) d within
          ∙ ap (λ (ks : List ℕ). get_or ks (length front) 0) is
          ∙ ap (λ (i : ℕ). get_or (front ++ m ∷ rest) i 0) (sym same)
          ∙ get_or-append-add front (m ∷ rest) 0 0,
    )

behind_nearest : (gs : List Game) (count m i : ℕ) (d : Game) (near : Option Game) → m ≤ count → count < m + SNAPSHOT_SPACING → i < length gs
    → ((other : Game) → (get_or gs i other).played ≡ m) → IsNearest count gs near → count < option_map_or (λ (g : Game). g.played) near 0 + SNAPSHOT_SPACING
behind_nearest gs count m i d None low high within is near =
    absurd (let above : count < (get_or gs i d).played = near i d within in omega (arith, above, is d, low))
behind_nearest gs count m i d (Some f) low high within is near =
    let there : (get_or gs i f).played ≤ f.played = near.2 i f within (omega (arith, is f, low)) in
    omega (arith, there, is f, high)

near_enough : (count : ℕ) (near : Option Game) → count < SNAPSHOT_SPACING → count < option_map_or (λ (g : Game). g.played) near 0 + SNAPSHOT_SPACING
near_enough count near few = omega (arith, few)

pub few_behind : (gs : List Game) (ends : List ℕ) (floor n k : ℕ) (d : Game) (near : Option Game) → AreNamed gs ends floor n → kept_at ends floor ≤ kept_at ends k → kept_at ends k ≤ n
    → IsNearest (kept_at ends k) gs near → kept_at ends k < option_map_or (λ (g : Game). g.played) near 0 + SNAPSHOT_SPACING
few_behind gs ends floor n k d near named rises low is = step (least_named (kept_at ends k)) refl
  where
    step : (m : ℕ) → least_named (kept_at ends k) ≡ m → kept_at ends k < option_map_or (λ (g : Game). g.played) near 0 + SNAPSHOT_SPACING
    step zero none = near_enough (kept_at ends k) near (omega (arith, least-near (kept_at ends k), none))
    step (suc m) some =
        let lo = least_named (kept_at ends floor) in
        let there = nearest_named lo (kept_at ends k) n (least-rises (kept_at ends floor) (kept_at ends k) rises) (omega (arith, some)) low in
        let at = λ (other : Game). at_named gs there.0 there.1 (least_named (kept_at ends k)) other (named.counts ∙ there.2) in
        behind_nearest gs (kept_at ends k) (least_named (kept_at ends k)) (length there.0) d near
        (least-below (kept_at ends k)) (least-near (kept_at ends k)) (at d).0 (λ other. (at other).1) is
