-- The play of a table that goes on with one command.
use Rattle.std.proofs.Common.{◌≡◌, ◌-◌, Bool, List, [], ◌∷◌, ◌++◌, length, None, if◌then◌else◌, refl, ap, ◌∙◌, arith}
use Rattle.std.proofs.Math.Logic.{∥∥₁_elim, ∥∥₁_map}
use mathlib.Core.HLevel.{⊥_prop}
use Rattle.rr_books.specs.declared.refusal.Refusal.TheVariants as G
use Rattle.rr_kit.specs.declared.kit.Kit.{Kit}
use Rattle.rr_code.specs.declared.command.Command.{Command}
use Rattle.rr_game.specs.declared.game.Game.{Game}
use Rattle.rr_game.specs.Keeping.{IsGameOf}
use Rattle.rr_game.specs.Laws.{CommandsHaveOneVerdict}
use Rattle.rr_game.specs.Play.{begins_with_opening, play, players_of}
use Rattle.rr_turns.specs.Judgement.{MayFind, judgement_map}
use Rattle.rr_turns.specs.Turns.{ended_turns}
use Rattle.rr_turns.proofs.JudgementLemmas.{map-is, map-one, only-wanting}
use Rattle.rr_turns.proofs.LawfulLemmas.{lawful-push}
use Rattle.rr_game.specs.declared.history.fault.Fault.{Fault}
use Rattle.rr_game.specs.declared.history.fault.Fault.TheVariants as F
use Rattle.rr_game.specs.History.Fault.{of_game}
use Rattle.rr_game.specs.History.Playing.{ArePlayed, IsLawfulAfter, IsPlayOf, game_judgement}
use Rattle.rr_game.specs.History.Tables.{IsPlayed, turns_in}
use Rattle.rr_game.specs.declared.history.table.Table.{Table}
use Rattle.rr_game.specs.Turning.{ends_turn}
use Rattle.rr_game.proofs.TurnEnds.{turns_told}

-- want of memory it is, if it can be nothing else
for_memory : (fault : Fault) → ∥ fault ≡ F.OutOfMemory ∥₁ → fault ≡ F.OutOfMemory
for_memory F.OutOfMemory h = refl
for_memory (F.Game other) h = absurd (∥∥₁_elim h ⊥_prop (λ e. cc))
for_memory (F.StaleStamp stamp) h = absurd (∥∥₁_elim h ⊥_prop (λ e. cc))
for_memory F.TurnNotKept h = absurd (∥∥₁_elim h ⊥_prop (λ e. cc))
for_memory F.TooManyCommands h = absurd (∥∥₁_elim h ⊥_prop (λ e. cc))

-- a command that no rule refuses is refused for want of memory alone
pub only_memory : CommandsHaveOneVerdict → (kit : Kit) (before : List Command) (c : Command) (fault : Fault) → ∥ IsLawfulAfter kit before c ∥₁
    → MayFind (judgement_map of_game (game_judgement kit before c)) F.OutOfMemory fault → fault ≡ F.OutOfMemory
only_memory law kit before c fault lawful found = for_memory fault (∥∥₁_map lawful by_verdict)
  where
    by_verdict : IsLawfulAfter kit before c → fault ≡ F.OutOfMemory
    by_verdict none =
        only-wanting (judgement_map of_game (game_judgement kit before c)) F.OutOfMemory fault
        (map-one of_game (game_judgement kit before c) (law kit (players_of before) (play kit before) c))
        (map-is of_game (game_judgement kit before c) None none) found

-- commands that were played begin with an opening, which wants memory alone
pub opening_wants : (kit : Kit) (opening : Command) (others : List Command) (fault : Fault) → ∥ ArePlayed kit (opening ∷ others) ∥₁
    → fault ≡ (if begins_with_opening (opening ∷ []) then F.OutOfMemory else F.Game G.WrongStep) → fault ≡ F.OutOfMemory
opening_wants kit opening others fault lawful is = for_memory fault (∥∥₁_map lawful by_opening)
  where
    by_opening : ArePlayed kit (opening ∷ others) → fault ≡ F.OutOfMemory
    by_opening both = is ∙ ap (λ (b : Bool). if b then F.OutOfMemory else F.Game G.WrongStep) both.0

plays_on : (kit : Kit) (opening : Command) (others : List Command) (c : Command) → IsLawfulAfter kit (opening ∷ others) c → ArePlayed kit (opening ∷ others)
    → ArePlayed kit (opening ∷ others ++ c ∷ [])
plays_on kit opening others c lawful both = (both.0, lawful-push (IsLawfulAfter kit) (opening ∷ []) others c both.1 lawful)

pub goes_on : (kit : Kit) (commands : List Command) (c : Command) (old new : Game) → IsPlayOf kit commands old
    → IsLawfulAfter kit commands c → IsGameOf kit (commands ++ c ∷ []) new → IsPlayOf kit (commands ++ c ∷ []) new
goes_on kit [] c old new play lawful next = absurd (∥∥₁_elim play.lawful ⊥_prop (λ none. none))
goes_on kit (opening ∷ others) c old new play lawful next = record {
  lawful = ∥∥₁_map play.lawful (plays_on kit opening others c lawful);
  played = next;
}

-- as many turns have ended as its game tells
pub turns_ended : (kit : Kit) (commands : List Command) (game : Game) → IsGameOf kit commands game → length game.ends - 1 ≡ ended_turns (ends_turn kit) commands
turns_ended kit commands game stands =
    let told = turns_told kit commands game stands in
    omega (arith, told)

pub turns_played : (kit : Kit) (table : Table) → IsPlayed kit table → turns_in table ≡ ended_turns (ends_turn kit) table.kept.commands
turns_played kit table played = turns_ended kit table.kept.commands table.game played.played
