-- What always holds of the tables of a game.
use Rattle.std.specs.Prelude.{◌≡◌, ℕ, ◌+◌, ◌<◌, ◌≤◌, true, List, [], ◌∷◌, ◌++◌, Option, None, length, map, take}
use Rattle.std.specs.List.{range_with_len}
use Rattle.std.specs.Option.{option_map_or}
use Rattle.rr_kit.specs.declared.kit.Kit.{Kit}
use Rattle.rr_code.specs.declared.command.Command.{Command}
use Rattle.rr_entries.specs.Words.{joined}
use Rattle.rr_game.specs.Keeping.{IsGameOf}
use Rattle.rr_turns.specs.declared.request.Request.{Request}
use Rattle.rr_turns.specs.declared.request.Request.TheVariants.{Back}
use Rattle.rr_turns.specs.Judgement.{HasOneVerdict, IsVerdict}
use Rattle.rr_turns.specs.Kept.{Kept, NamesAKeptTurn, kept_after}
use Rattle.rr_turns.specs.Ends.{kept_at}
use Rattle.rr_turns.specs.Turns.{EndsWithATurn, ended_turns, first_turns}
use Rattle.rr_game.specs.declared.game.Game.{Game}
use Rattle.rr_game.specs.declared.history.snapshots.TheConstants.{SNAPSHOT_SPACING}
use Rattle.rr_game.specs.declared.history.table.Table.{Table}
use Rattle.rr_game.specs.Play.{begins_with_opening, play}
use Rattle.rr_game.specs.Turning.{ends_turn}
use Rattle.rr_game.specs.History.Snapshots.{IsNearest}
use Rattle.rr_game.specs.History.Tables.{HasItsSnapshots, IsPlayed, IsTableOf, kept_in, turns_in}
use Rattle.rr_game.specs.History.TurnEntries.{turn_entries}
use Rattle.rr_game.specs.History.Seeing.{IsSeenAs, judgement_at, seen_of}
use Rattle.rr_game.specs.History.Verdict.{request_judgement}
use Rattle.rr_game.specs.declared.history.fault.Fault.{Fault}

-- a table that accepts one request more is that of all of them
abbrev pub TablesGoOn : Type 0
TablesGoOn =
    (kit : Kit) (accepted : List (Request Command)) (request : Request Command) (old new : Table)
    → IsTableOf kit accepted old
    → kept_in new ≡ kept_after (ends_turn kit) (kept_in old) request → IsPlayed kit new
    → IsTableOf kit (accepted ++ request ∷ []) new

-- a table that was taken back to a turn has ended just as many, and its game is that of the first so many turns
abbrev pub BackGoesToItsTurn : Type 0
BackGoesToItsTurn =
    (kit : Kit) (k : ℕ) (old new : Table) → IsPlayed kit old → k ≤ turns_in old
    → kept_in new ≡ kept_after (ends_turn kit) (kept_in old) (Back k) → IsPlayed kit new
    → (turns_in new ≡ k) × IsGameOf kit (first_turns (ends_turn kit) k old.kept.commands) new.game

-- a table that was taken back to a turn keeps as many commands as its game tells of that turn's end
abbrev pub BackKeepsItsCount : Type 0
BackKeepsItsCount =
    (kit : Kit) (k : ℕ) (old new : Table) → IsPlayed kit old → k ≤ turns_in old
    → kept_in new ≡ kept_after (ends_turn kit) (kept_in old) (Back k)
    → (length new.kept.commands ≡ kept_at old.game.ends k) × (new.kept.commands ≡ take (kept_at old.game.ends k) old.kept.commands)

-- once a turn has ended and nothing was played behind it, to be taken back to it changes no game
abbrev pub BackToThePresentTurn : Type 0
BackToThePresentTurn =
    (kit : Kit) (old new : Table) → IsPlayed kit old → EndsWithATurn (ends_turn kit) old.kept.commands
    → kept_in new ≡ kept_after (ends_turn kit) (kept_in old) (Back (turns_in old)) → IsPlayed kit new
    → IsGameOf kit old.kept.commands new.game × (new.kept.commands ≡ old.kept.commands)

-- a request that no check refuses names a kept turn, if it names one: so the floor never falls
abbrev pub AcceptedTurnsAreKept : Type 0
AcceptedTurnsAreKept =
    (kit : Kit) (table : Kept Command) (stamp : ℕ) (request : Request Command)
    → IsVerdict (request_judgement kit table stamp request) None → NamesAKeptTurn (ends_turn kit) table request

-- a request isn't refused for two reasons, nor refused and lawful
abbrev pub RequestsHaveOneVerdict : Type 0
RequestsHaveOneVerdict =
    (kit : Kit) (table : Kept Command) (stamp : ℕ) (request : Request Command)
    → HasOneVerdict (request_judgement kit table stamp request)

-- from the nearest snapshot, or from the opening where there is none, fewer commands than the spacing are played to the end of a
-- turn that isn't forgotten
abbrev pub BackPlaysFew : Type 0
BackPlaysFew =
    (kit : Kit) (k : ℕ) (table : Table) (nearest : Option Game) → IsPlayed kit table → HasItsSnapshots table
    → table.floor ≤ k → k ≤ turns_in table → IsNearest (kept_at table.game.ends k) table.kept.snapshots nearest
    → kept_at table.game.ends k < option_map_or (λ (game : Game). game.played) nearest 0 + SNAPSHOT_SPACING

-- the entries of all turns, the turn under way included, make the book
abbrev pub TurnsMakeTheBook : Type 0
TurnsMakeTheBook =
    (kit : Kit) (commands : List Command) → begins_with_opening commands ≡ true
    → joined (map (turn_entries kit commands) (range_with_len 0 (ended_turns (ends_turn kit) commands + 2))) ≡ (play kit commands).book

-- a table that was played is seen as the play of what it keeps
abbrev pub PlayedTablesAreSeen : Type 0
PlayedTablesAreSeen = (kit : Kit) (table : Table) → IsPlayed kit table → IsSeenAs table (seen_of kit (kept_in table))

-- and by that it is judged as the rules say of what it keeps
abbrev pub PlaysAreJudgedAlike : Type 0
PlaysAreJudgedAlike =
    (kit : Kit) (kept : Kept Command) (stamp : ℕ) (request : Request Command) (verdict : Option Fault)
    → IsVerdict (judgement_at kit (seen_of kit kept) stamp request) verdict → IsVerdict (request_judgement kit kept stamp request) verdict
