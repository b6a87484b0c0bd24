-- The snapshots of a table's game: which a table keeps, and what game each is.
use Rattle.std.specs.Prelude.{◌≡◌, ℕ, ◌-◌, ◌*◌, ◌/◌, ◌%◌, ◌<◌, ◌≤◌, ◌==◌, Bool, ◌&&◌, nat_le, nat_lt, All, List, Option, None, Some, MatchOption, length, map, take, if◌then◌else◌}
use Rattle.std.specs.List.{Contains}
use Rattle.rr_kit.specs.declared.kit.Kit.{Kit}
use Rattle.rr_code.specs.declared.command.Command.{Command}
use Rattle.rr_turns.specs.Counts.{numbers_with}
use Rattle.rr_turns.specs.Ends.{kept_at}
use Rattle.rr_game.specs.declared.game.Game.{Game}
use Rattle.rr_game.specs.declared.history.snapshots.TheConstants.{SNAPSHOT_SPACING}
use Rattle.rr_game.specs.History.GameBytes.{SpellsGame, bytes_of}
use Rattle.rr_game.specs.Keeping.{IsGameOf}

-- a snapshot may be of so many commands
abbrev pub is_spaced : ℕ → Bool
is_spaced count = count % SNAPSHOT_SPACING == 0

-- the greatest such count that isn't above this one, or 0: the least of which a table has a snapshot whose floor is at this one
abbrev pub least_named : ℕ → ℕ
least_named count = count / SNAPSHOT_SPACING * SNAPSHOT_SPACING

-- a snapshot of so many commands is kept where those of fewer than `least` aren't
abbrev pub is_named : ℕ → ℕ → Bool
is_named least count = is_spaced count && nat_le least count

-- the count is from one bound to the other
abbrev pub is_between : ℕ → ℕ → ℕ → Bool
is_between least most count = nat_le least count && nat_le count most

-- of how many commands each a table has snapshots that keeps so many
abbrev pub named_counts : ℕ → ℕ → List ℕ
named_counts least count = numbers_with (is_named least) count

-- the snapshots are just those of a table that keeps so many commands, whose floor is at one of these ends of turns: at each
-- multiple of the spacing above the count at the floor, and at the greatest that isn't above that
pub record AreNamed (snapshots : List Game) (ends : List ℕ) (floor count : ℕ) : Type 0 where
  pub floored : floor < length ends
  pub counts : map (λ (game : Game). game.played) snapshots ≡ named_counts (least_named (kept_at ends floor)) count

-- the game is that of the first so many of these commands, and its values have bytes
pub record IsShown (kit : Kit) (commands : List Command) (game : Game) : Type 0 where
  pub within : game.played ≤ length commands
  pub stands : IsGameOf kit (take game.played commands) game
  pub spelled : SpellsGame (bytes_of game) game.played game

-- the snapshot that is made of a game, if one is
abbrev pub snapshot_due : Game → Option Game
snapshot_due game = if is_spaced game.played then Some game else None

-- a snapshot up to the count is nearer to it than the other, if there is one
abbrev pub is_nearer : Game → Option Game → ℕ → Bool
is_nearer game None count = nat_le game.played count
is_nearer game (Some other) count = nat_le game.played count && nat_lt other.played game.played

-- the nearer of both
abbrev pub nearer : Game → Option Game → ℕ → Option Game
nearer game other count = if is_nearer game other count then Some game else other

-- of these snapshots the one with the greatest count up to this one, or none where each has a greater one
abbrev pub IsNearest : ℕ → List Game → Option Game → Type 0
IsNearest count snapshots nearest =
    MatchOption nearest
    (All (λ (game : Game). count < game.played) snapshots)
    (λ (found : Game). Contains snapshots found × (found.played ≤ count) × All (λ (game : Game). game.played ≤ count → game.played ≤ found.played) snapshots)

-- how many commands are played to the game of the first so many from this snapshot on, or from the opening where there
-- is none
abbrev pub plays_from : Option Game → ℕ → ℕ
plays_from None count = count - 1
plays_from (Some snapshot) count = count - snapshot.played

-- so many commands are played to the game of the first so many: from the nearest of these snapshots on, or from the
-- opening where there is none
pub record PlaysOn (snapshots : List Game) (count plays : ℕ) : Type 0 where
  pub start : Option Game
  pub is_nearest : IsNearest count snapshots start
  pub counted : plays ≡ plays_from start count
