-- How few commands are played to work out a change of a table that has its snapshots.
use Rattle.std.proofs.Common.{◌≡◌, ℕ, ◌+◌, ◌<◌, length, Option, None, Some, Result, Ok, Err, IfOk, arith}
use Rattle.std.specs.Option.{option_map_or}
use Rattle.rr_kit.specs.declared.kit.Kit.{Kit}
use Rattle.rr_code.specs.declared.command.Command.{Command}
use Rattle.rr_turns.specs.declared.request.Request.{Request}
use Rattle.rr_turns.specs.declared.request.Request.TheVariants.{Play, Back, Forget}
use Rattle.rr_turns.specs.Ends.{kept_at}
use Rattle.rr_game.specs.declared.game.Game.{Game}
use Rattle.rr_game.specs.declared.history.change.Change.{Change}
use Rattle.rr_game.specs.declared.history.snapshots.TheConstants.{SNAPSHOT_SPACING}
use Rattle.rr_game.specs.declared.history.table.Table.{Table}
use Rattle.rr_game.specs.History.Snapshots.{plays_from}
use Rattle.rr_game.specs.History.Tables.{CountsPlays, HasItsSnapshots, IsPlayed, NamesAnEndedTurn, ShowsBy}
use Rattle.rr_game.proofs.HistoryLemmas.Making.{ended_within, kept_at-rises, kept_at-within}
use Rattle.rr_game.proofs.HistoryLemmas.Naming.{few_behind}

few_from : (start : Option Game) (count plays : ℕ) → plays ≡ plays_from start count
    → count < option_map_or (λ (game : Game). game.played) start 0 + SNAPSHOT_SPACING → plays < SNAPSHOT_SPACING
few_from None count plays is near = omega (arith, is, near)
few_from (Some snapshot) count plays is near = omega (arith, is, near)

few_plays : (kit : Kit) (table : Table) (request : Request Command) (plays : ℕ) → NamesAnEndedTurn table request → CountsPlays table request plays
    → IsPlayed kit table → HasItsSnapshots table → plays < SNAPSHOT_SPACING
few_plays kit table (Play c) plays turn counted before named = omega (arith, counted)
few_plays kit table (Back k) plays turn counted before named =
    let within = ended_within kit table k before turn.1 in
    few_from counted.start (kept_at table.game.ends k) plays counted.counted
    (few_behind table.kept.snapshots table.game.ends table.floor (length table.kept.commands) k table.game counted.start named
    (kept_at-rises kit table.kept.commands table.game table.floor k before.played turn.0 within) (kept_at-within kit table k before within) counted.is_nearest)
few_plays kit table (Forget k) plays turn counted before named = omega (arith, counted)

-- of a change, if there is one
pub few_by : {E : Type 0} (result : Result Change E) (kit : Kit) (table : Table) (request : Request Command) → IfOk result (λ change. ShowsBy table request change)
    → IfOk result (λ change. CountsPlays table request change.plays)
    → IfOk result (λ change. IsPlayed kit table → HasItsSnapshots table → change.plays < SNAPSHOT_SPACING)
few_by (Ok change) kit table request shows counted = few_plays kit table request change.plays shows.turn counted
few_by (Err fault) kit table request shows counted = tt
