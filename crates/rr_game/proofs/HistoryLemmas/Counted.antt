-- Snapshots against the counts that are named, with one number more.
use Rattle.std.proofs.Common.{◌≡◌, ℕ, ◌+◌, ◌<◌, ◌≤◌, false, true, List, [], ◌∷◌, ◌++◌, Some, length, map, take, slice_get, refl, sym, ap, ◌∙◌, arith}
use Rattle.std.proofs.lemmas.List.{length-map, length-take-le, take-map, take_more}
use Rattle.std.proofs.lemmas.Option.{get_or_from_slice_get, slice_get_within}
use Rattle.rr_turns.specs.Counts.{numbers_with}
use Rattle.rr_turns.proofs.CountLemmas.{fails-last, passes-at, passes-last}
use Rattle.rr_game.specs.declared.game.Game.{Game}
use Rattle.rr_game.specs.History.Snapshots.{is_named, named_counts}

abbrev played : Game → ℕ
played game = game.played

pub none_yet : (least : ℕ) → [] ≡ named_counts least 0
unfolding numbers_with
none_yet least = refl

-- a number that isn't named
pub passed_over : (least n : ℕ) (counts : List ℕ) → counts ≡ named_counts least n → is_named least (n + 1) ≡ false → counts ≡ named_counts least (n + 1)
passed_over least n counts before not_named = before ∙ sym (fails-last (is_named least) n not_named)

-- one that is, and is that of the next snapshot
pub next_within : (snapshots : List Game) (next count : ℕ) → slice_get (map played snapshots) next ≡ Some count → next + 1 ≤ length snapshots
next_within snapshots next count is =
    let within : next < length (map played snapshots) = slice_get_within (map played snapshots) next count is in
    omega (arith, within, length-map snapshots played)

pub next_named : (snapshots : List Game) (least next n : ℕ) → is_named least (n + 1) ≡ true → slice_get (map played snapshots) next ≡ Some (n + 1)
    → map played (take next snapshots) ≡ named_counts least n → map played (take (next + 1) snapshots) ≡ named_counts least (n + 1)
next_named snapshots least next n named is before =
    let counts = map played snapshots in
    sym (take-map played (next + 1) snapshots)
    ∙ take_more counts next 0 (slice_get_within counts next (n + 1) is)
    ∙ ap (λ (count : ℕ). take next counts ++ count ∷ []) (get_or_from_slice_get counts next (n + 1) 0 is)
    ∙ ap (λ (xs : List ℕ). xs ++ (n + 1) ∷ []) (take-map played next snapshots ∙ before)
    ∙ sym (passes-last (is_named least) n named)

-- one that is, and isn't that of the next snapshot: the snapshots are others

slice_get-behind : (front : List ℕ) (x : ℕ) (rest : List ℕ) → slice_get (front ++ x ∷ rest) (length front) ≡ Some x
slice_get-behind [] x rest = refl
slice_get-behind (y ∷ front) x rest = slice_get-behind front x rest

at_front : (front all rest : List ℕ) (x place : ℕ) → all ≡ front ++ x ∷ rest → length front ≡ place → slice_get all place ≡ Some x
at_front front all rest x place is e =
    ap (λ (xs : List ℕ). slice_get xs place) is ∙ ap (λ (k : ℕ). slice_get (front ++ x ∷ rest) k) (sym e) ∙ slice_get-behind front x rest

length-front : (snapshots : List Game) (least next n : ℕ) → next ≤ length snapshots → map played (take next snapshots) ≡ named_counts least n → length (named_counts least n) ≡ next
length-front snapshots least next n within before =
    ap length (sym before) ∙ length-map (take next snapshots) played ∙ length-take-le next snapshots within

pub next_is : (snapshots : List Game) (least next n count : ℕ) → next ≤ length snapshots → n < count → is_named least (n + 1) ≡ true
    → map played (take next snapshots) ≡ named_counts least n → map played snapshots ≡ named_counts least count
    → slice_get (map played snapshots) next ≡ Some (n + 1)
next_is snapshots least next n count within below named before all =
    at_front (named_counts least n) (map played snapshots) _ (n + 1) next (all ∙ passes-at (is_named least) n count below named)
    (length-front snapshots least next n within before)
