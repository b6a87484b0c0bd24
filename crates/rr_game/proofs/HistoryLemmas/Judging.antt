-- The judgement on a request, from the table's own and from the game's, and that there is one.
use Rattle.std.proofs.Common.{◌≡◌, ℕ, ◌<◌, Bool, true, false, length, nat_le, Option, None, Some, [], ap, option_map, if◌then◌else◌, refl, sym, ◌∙◌, arith}
use Rattle.std.specs.Option.{option_or}
use Rattle.std.proofs.lemmas.Bool.Decides.{nat_tests}
use Rattle.rr_turns.specs.declared.limits.TheConstants.{MOST_COMMANDS}
use Rattle.rr_kit.specs.declared.kit.Kit.{Kit}
use Rattle.rr_code.specs.declared.command.Command.{Command}
use Rattle.rr_code.specs.declared.command.Command.TheVariants.{Order}
use Rattle.rr_orders.specs.declared.order.Order.TheVariants.{Run}
use Rattle.rr_roster.specs.declared.company.Corp.{Corp}
use Rattle.rr_books.specs.declared.refusal.Refusal.{Refusal}
use Rattle.rr_game.specs.Running.{run_verdict as game_run_verdict}
use Rattle.rr_game.specs.Laws.{CommandsHaveOneVerdict}
use Rattle.rr_game.specs.Play.{play, players_of}
use Rattle.rr_turns.specs.declared.request.Request.{Request}
use Rattle.rr_turns.specs.declared.request.Request.TheVariants.{Play, Back, Forget}
use Rattle.rr_turns.specs.Judgement.{HasOneVerdict, IsVerdict, MayFind, judgement_map}
use Rattle.rr_turns.specs.Kept.{Kept}
use Rattle.rr_turns.proofs.JudgementLemmas.{behind-is, behind-one, check-refuses, lawful-wants, map-is, map-one, settled-is, settled-one}
use Rattle.rr_game.specs.declared.history.fault.Fault.{Fault}
use Rattle.rr_game.specs.declared.history.fault.Fault.TheVariants as F
use Rattle.rr_game.specs.History.Fault.{of_game}
use Rattle.rr_game.specs.History.Playing.{IsLawfulAfter, game_judgement}
use Rattle.rr_game.specs.History.Running.{run_verdict}
use Rattle.rr_game.specs.History.Verdict.{is_kept_turn, own_judgement, request_judgement, room_verdict, stamp_verdict, turn_verdict}

-- a check that passes
no_check : {F : Type 0} (check first : Option F) → check ≡ None → option_or check first ≡ first
no_check None first h = refl
no_check (Some fault) first h = absurd cc

-- the stamp

pub stamp_refuses : (kit : Kit) (table : Kept Command) (stamp : ℕ) (request : Request Command) (fault : Fault) → stamp_verdict table stamp ≡ Some fault
    → (request_judgement kit table stamp request).first ≡ Some fault
stamp_refuses kit table stamp request fault h = check-refuses (stamp_verdict table stamp) (own_judgement kit table request) fault h

pub lawful_behind_stamp : (kit : Kit) (table : Kept Command) (stamp : ℕ) (request : Request Command) → stamp_verdict table stamp ≡ None
    → IsVerdict (own_judgement kit table request) None → IsVerdict (request_judgement kit table stamp request) None
lawful_behind_stamp kit table stamp request h is = behind-is (stamp_verdict table stamp) (own_judgement kit table request) None h is

-- a command

by_room : (b : Bool) (n : ℕ) → nat_le MOST_COMMANDS n ≡ b → n < MOST_COMMANDS → ◌≡◌ {A = Option Fault} (if b then Some F.TooManyCommands else None) None
by_room true n e less = absurd (grind (arith, nat_tests))
by_room false n e less = refl

pub has_room : (table : Kept Command) (n : ℕ) → n ≡ length table.commands → n < MOST_COMMANDS → room_verdict table ≡ None
has_room table n all less = by_room (nat_le MOST_COMMANDS (length table.commands)) (length table.commands) refl (omega (arith, all, less))

pub lawful_with_room : (kit : Kit) (table : Kept Command) (c : Command) → room_verdict table ≡ None → IsLawfulAfter kit table.commands c
    → IsVerdict (own_judgement kit table (Play c)) None
lawful_with_room kit table c h is =
    behind-is (room_verdict table) (judgement_map of_game (game_judgement kit table.commands c)) None h
    (map-is of_game (game_judgement kit table.commands c) None is)

-- a run, before its words are looked at

pub run_unstamped : (kit : Kit) (table : Kept Command) (stamp : ℕ) (c : Corp) (fault : Fault) → stamp_verdict table stamp ≡ Some fault
    → run_verdict kit table stamp c ≡ Some fault
run_unstamped kit table stamp c fault h = stamp_refuses kit table stamp (Play (Order (Run c []))) fault h

pub run_unroomed : (kit : Kit) (table : Kept Command) (stamp : ℕ) (c : Corp) (fault : Fault) → stamp_verdict table stamp ≡ None
    → room_verdict table ≡ Some fault → run_verdict kit table stamp c ≡ Some fault
run_unroomed kit table stamp c fault h full =
    no_check (stamp_verdict table stamp) (own_judgement kit table (Play (Order (Run c [])))).first h
    ∙ check-refuses (room_verdict table) (judgement_map of_game (game_judgement kit table.commands (Order (Run c [])))) fault full

pub run_alone : (kit : Kit) (table : Kept Command) (stamp : ℕ) (c : Corp) (verdict : Option Refusal) → stamp_verdict table stamp ≡ None
    → room_verdict table ≡ None → game_run_verdict kit (players_of table.commands) (play kit table.commands) c ≡ verdict
    → run_verdict kit table stamp c ≡ option_map of_game verdict
run_alone kit table stamp c verdict h room is =
    no_check (stamp_verdict table stamp) (own_judgement kit table (Play (Order (Run c [])))).first h
    ∙ no_check (room_verdict table) (judgement_map of_game (game_judgement kit table.commands (Order (Run c [])))).first room
    ∙ ap (λ (o : Option Refusal). option_map of_game o) is

-- a request that forgets

pub turn_refuses : (kit : Kit) (table : Kept Command) (stamp k : ℕ) (fault : Fault) → stamp_verdict table stamp ≡ None → turn_verdict kit table k ≡ Some fault
    → (request_judgement kit table stamp (Forget k)).first ≡ Some fault
turn_refuses kit table stamp k fault h refused = no_check (stamp_verdict table stamp) (turn_verdict kit table k) h ∙ refused

pub lawful_turn : (kit : Kit) (table : Kept Command) (stamp k : ℕ) → stamp_verdict table stamp ≡ None → turn_verdict kit table k ≡ None
    → IsVerdict (request_judgement kit table stamp (Forget k)) None
lawful_turn kit table stamp k h kept = lawful_behind_stamp kit table stamp (Forget k) h (settled-is (turn_verdict kit table k) None (sym kept))

-- each request has one verdict

own_one : CommandsHaveOneVerdict → (kit : Kit) (table : Kept Command) (request : Request Command) → HasOneVerdict (own_judgement kit table request)
own_one law kit table (Play c) =
    behind-one (room_verdict table) (judgement_map of_game (game_judgement kit table.commands c))
    (map-one of_game (game_judgement kit table.commands c) (law kit (players_of table.commands) (play kit table.commands) c))
own_one law kit table (Back k) = settled-one (turn_verdict kit table k)
own_one law kit table (Forget k) = settled-one (turn_verdict kit table k)

pub request_one : CommandsHaveOneVerdict → (kit : Kit) (table : Kept Command) (stamp : ℕ) (request : Request Command) → HasOneVerdict (request_judgement kit table stamp request)
request_one law kit table stamp request = behind-one (stamp_verdict table stamp) (own_judgement kit table request) (own_one law kit table request)

-- a request for a turn that is kept

pub turn_kept : (kit : Kit) (table : Kept Command) (k : ℕ) → true ≡ is_kept_turn kit table k → turn_verdict kit table k ≡ None
turn_kept kit table k h = ap (λ (b : Bool). if b then None else Some F.TurnNotKept) (sym h)

pub back_wants : (kit : Kit) (table : Kept Command) (k : ℕ) (fault : Fault) → true ≡ is_kept_turn kit table k → fault ≡ F.OutOfMemory
    → MayFind (own_judgement kit table (Back k)) F.OutOfMemory fault
back_wants kit table k fault h same =
    lawful-wants (own_judgement kit table (Back k)) F.OutOfMemory fault (settled-is (turn_verdict kit table k) None (sym (turn_kept kit table k h))) same
