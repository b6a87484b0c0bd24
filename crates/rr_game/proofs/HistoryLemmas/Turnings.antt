-- What a request that isn't refused says of its turn.
use Rattle.std.proofs.Common.{◌≡◌, ℕ, ◌≤◌, Bool, true, false, nat_le, None, Some, if◌then◌else◌, refl, sym, arith}
use Rattle.std.proofs.lemmas.Bool.{and_parts}
use Rattle.std.proofs.lemmas.Bool.Decides.{nat_tests}
use Rattle.rr_kit.specs.declared.kit.Kit.{Kit}
use Rattle.rr_code.specs.declared.command.Command.{Command}
use Rattle.rr_turns.specs.declared.request.Request.{Request}
use Rattle.rr_turns.specs.declared.request.Request.TheVariants.{Play, Back, Forget}
use Rattle.rr_turns.specs.Judgement.{IsVerdict, settled}
use Rattle.rr_turns.proofs.JudgementLemmas.{is-settled, lawful-behind}
use Rattle.rr_turns.specs.Kept.{IsKeptTurn, Kept, NamesAKeptTurn}
use Rattle.rr_turns.specs.Turns.{ended_turns}
use Rattle.rr_game.specs.declared.history.fault.Fault.{Fault}
use Rattle.rr_game.specs.declared.history.fault.Fault.TheVariants as F
use Rattle.rr_game.specs.Turning.{ends_turn}
use Rattle.rr_game.specs.History.Verdict.{is_kept_turn, own_judgement, request_judgement, stamp_verdict, turn_verdict}

kept : (b : Bool) (fault : Fault) → (if b then None else Some fault) ≡ None → b ≡ true
kept true fault h = refl
kept false fault h = absurd cc

at_most : (n m : ℕ) → nat_le n m ≡ true → n ≤ m
at_most n m h = grind (arith, nat_tests)

kept_turn : (kit : Kit) (table : Kept Command) (k : ℕ) → is_kept_turn kit table k ≡ true → IsKeptTurn (ends_turn kit) table k
kept_turn kit table k h =
    let turns = ended_turns (ends_turn kit) table.commands in
    let both = and_parts (nat_le table.floor k) (nat_le k turns) h in
    (at_most table.floor k both.0, at_most k turns both.1)

by_turn : (kit : Kit) (table : Kept Command) (k : ℕ) → IsVerdict (settled (turn_verdict kit table k)) None → IsKeptTurn (ends_turn kit) table k
by_turn kit table k h = kept_turn kit table k (kept (is_kept_turn kit table k) F.TurnNotKept (sym (is-settled _ _ h)))

own_turn : (kit : Kit) (table : Kept Command) (request : Request Command) → IsVerdict (own_judgement kit table request) None
    → NamesAKeptTurn (ends_turn kit) table request
own_turn kit table (Play command) h = tt
own_turn kit table (Back k) h = by_turn kit table k h
own_turn kit table (Forget k) h = by_turn kit table k h

pub accepted_turn : (kit : Kit) (table : Kept Command) (stamp : ℕ) (request : Request Command)
    → IsVerdict (request_judgement kit table stamp request) None → NamesAKeptTurn (ends_turn kit) table request
accepted_turn kit table stamp request h =
    own_turn kit table request (lawful-behind (stamp_verdict table stamp) (own_judgement kit table request) h)
