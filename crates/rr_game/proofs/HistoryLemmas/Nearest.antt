-- The nearest of snapshots, with one snapshot more.
use Rattle.std.proofs.Common.{◌≡◌, ℕ, ◌+◌, ◌-◌, ◌<◌, ◌≤◌, Bool, true, false, ◌&&◌, nat_le, nat_lt, List, [], ◌∷◌, ◌++◌, All, length, take, get_or, Option, None, Some, if◌then◌else◌, refl, sym, ap, subst, ◌∙◌, arith}
use Rattle.std.proofs.lemmas.Bool.Decides.{nat_tests}
use Rattle.std.proofs.lemmas.List.{take_more}
use Rattle.std.proofs.lemmas.List.Elements.{All-push, Contains-append_left, Contains-push}
use Rattle.rr_game.specs.declared.game.Game.{Game}
use Rattle.rr_game.specs.History.Snapshots.{IsNearest, PlaysOn, nearer}
use Rattle.rr_game.proofs.HistoryLemmas.Counts.{true-le}

above : (k n : ℕ) → nat_le k n ≡ false → n < k
above k n h = grind (arith, nat_tests)

below : (k n : ℕ) → nat_lt k n ≡ true → k < n
below k n h = grind (arith, nat_tests)

not_below : (k n : ℕ) → nat_lt k n ≡ false → n ≤ k
not_below k n h = grind (arith, nat_tests)

-- up to the count none is nearer than this one
abbrev IsLast : ℕ → ℕ → Game → Type 0
IsLast count played game = game.played ≤ count → game.played ≤ played

with_first : (count : ℕ) (snapshots : List Game) (game : Game) → All (λ (g : Game). count < g.played) snapshots
    → IsNearest count (snapshots ++ game ∷ []) (nearer game None count)
with_first count snapshots game none = step (nat_le game.played count) refl
  where
    step : (b : Bool) → nat_le game.played count ≡ b → IsNearest count (snapshots ++ game ∷ []) (if b then Some game else None)
    step true is = (
      Contains-push snapshots game,
      true-le game.played count is,
      All-push (IsLast count game.played) snapshots game
          (λ k d within few. absurd (let high = none k d within in omega (arith, high, few)))
          (λ few. omega arith),
    )
    step false is = All-push (λ (g : Game). count < g.played) snapshots game none (above game.played count is)

with_other : (count : ℕ) (snapshots : List Game) (game other : Game) → IsNearest count snapshots (Some other)
    → IsNearest count (snapshots ++ game ∷ []) (nearer game (Some other) count)
with_other count snapshots game other is = step (nat_le game.played count) (nat_lt other.played game.played) refl refl
  where
    stays : (game.played ≤ count → game.played ≤ other.played) → IsNearest count (snapshots ++ game ∷ []) (Some other)
    stays few = (Contains-append_left snapshots (game ∷ []) other is.0, is.1, All-push (IsLast count other.played) snapshots game is.2 few)

    step : (a b : Bool) → nat_le game.played count ≡ a → nat_lt other.played game.played ≡ b
        → IsNearest count (snapshots ++ game ∷ []) (if a && b then Some game else Some other)
    step true true within later = (
      Contains-push snapshots game,
      true-le game.played count within,
      All-push (IsLast count game.played) snapshots game
          (λ k d there few. let low = is.2 k d there few in omega (arith, low, below other.played game.played later))
          (λ few. omega arith),
    )
    step true false within later = stays (λ few. not_below other.played game.played later)
    step false b within later = stays (λ few. absurd (omega (arith, few, above game.played count within)))

with_one : (count : ℕ) (snapshots : List Game) (game : Game) (other : Option Game) → IsNearest count snapshots other
    → IsNearest count (snapshots ++ game ∷ []) (nearer game other count)
with_one count snapshots game None none = with_first count snapshots game none
with_one count snapshots game (Some other) is = with_other count snapshots game other is

-- the first so many and one more
pub nearest_more : (count : ℕ) (snapshots : List Game) (index : ℕ) (game : Game) (other near : Option Game) → index < length snapshots → game ≡ get_or snapshots index game
    → near ≡ nearer game other count → IsNearest count (take index snapshots) other → IsNearest count (take (index + 1) snapshots) near
nearest_more count snapshots index game other near within is nearest before =
    let more : take (index + 1) snapshots ≡ take index snapshots ++ game ∷ [] =
    take_more snapshots index game within ∙ ap (λ (g : Game). take index snapshots ++ g ∷ []) (sym is) in
    subst (λ (gs : List Game). IsNearest count gs near) (sym more)
    (subst (λ (o : Option Game). IsNearest count (take index snapshots ++ game ∷ []) o) (sym nearest) (with_one count (take index snapshots) game other before))

-- the commands that are played from the nearest, and from the opening where there is none

pub plays_from_nearest : (snapshots listed : List Game) (count plays : ℕ) (found game : Game) → listed ≡ snapshots → IsNearest count listed (Some found)
    → game ≡ found → plays ≡ count - game.played → PlaysOn snapshots count plays
plays_from_nearest snapshots listed count plays found game same is again counted = record {
  start = Some found;
  is_nearest = subst (λ (gs : List Game). IsNearest count gs (Some found)) same is;
  counted = counted ∙ ap (λ (g : Game). count - g.played) again;
}

pub plays_from_opening : (snapshots listed : List Game) (count plays : ℕ) → listed ≡ snapshots → IsNearest count listed None → plays ≡ count - 1
    → PlaysOn snapshots count plays
plays_from_opening snapshots listed count plays same is counted = record {
  start = None;
  is_nearest = subst (λ (gs : List Game). IsNearest count gs None) same is;
  counted = counted;
}
