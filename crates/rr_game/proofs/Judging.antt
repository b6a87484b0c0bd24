-- The judgement on a command, from what its names stand for and from the rules, and that there is one.
use Rattle.std.proofs.Common.{◌≡◌, ◌∙◌, ℕ, List, [], Option, Some, None, ap, inr, refl, sym, subst}
use Rattle.std.specs.Option.{option_or}
use Rattle.rr_books.specs.declared.acts.Act.{Act}
use Rattle.rr_books.specs.declared.acts.Act.TheVariants as A
use Rattle.rr_code.specs.declared.command.Command.{Command}
use Rattle.rr_code.specs.declared.command.Command.TheVariants.{Open, Order}
use Rattle.rr_orders.specs.declared.order.Order.TheVariants as O
use Rattle.rr_kit.specs.declared.kit.Kit.{Kit}
use Rattle.rr_roster.specs.declared.company.Corp.{Corp}
use Rattle.rr_books.specs.declared.refusal.Refusal.{Refusal}
use Rattle.rr_books.specs.declared.refusal.Refusal.TheVariants as R
use Rattle.rr_rules.specs.Judging.{judgement}
use Rattle.rr_rules.specs.RuleLaws.{ActsHaveOneVerdict}
use Rattle.rr_rules.specs.Runs.{run_verdict}
use Rattle.rr_rules.specs.State.{GameState}
use Rattle.rr_rules.proofs.RunLemmas.{best_run_alike, run_alike}
use Rattle.rr_turns.specs.Judgement.{HasOneVerdict, IsVerdict, Judgement, MayFind}
use Rattle.rr_turns.proofs.JudgementLemmas.{behind-finds, behind-is, behind-one, check-refuses, first-is-found, settled-one}
use Rattle.rr_game.specs.Names.{act_of}
use Rattle.rr_game.specs.Running.{run_verdict as game_run_verdict}
use Rattle.rr_game.specs.Verdict.{act_judgement, command_judgement, command_judgement_in_play, over_verdict}

-- a command whose names stand for an act is judged as that

named : (kit : Kit) (players : List (List ℕ)) (state : GameState) (command : Command) (act : Act) (P : Judgement Refusal → Type 0) → act_of players command ≡ Some act
    → P (act_judgement kit state (Some act)) → P (command_judgement_in_play kit players state command)
named kit players state (Open others) act P h is = absurd cc
named kit players state command act P h is = subst (λ (a : Option Act). P (act_judgement kit state a)) (sym h) is

-- by the players of the table, as the game has them

among : (kit : Kit) (own players : List (List ℕ)) (state : GameState) (command : Command) (P : Judgement Refusal → Type 0) → own ≡ players
    → P (command_judgement kit own state command) → P (command_judgement kit players state command)
among kit own players state command P same is = subst (λ (ps : List (List ℕ)). P (command_judgement kit ps state command)) same is

-- the game is over

pub unplayed : (kit : Kit) (players : List (List ℕ)) (state : GameState) (command : Command) (fault : Refusal) → over_verdict kit state ≡ Some fault
    → MayFind (command_judgement kit players state command) R.OutOfMemory fault
unplayed kit players state command fault h =
    first-is-found (command_judgement kit players state command) R.OutOfMemory fault
    (check-refuses (over_verdict kit state) (command_judgement_in_play kit players state command) fault h)

-- the command stands for no act, or its run doesn't come in its order
pub unnamed : (kit : Kit) (own players : List (List ℕ)) (state : GameState) (command : Command) (fault : Refusal) → own ≡ players → over_verdict kit state ≡ None
    → MayFind (command_judgement_in_play kit own state command) R.OutOfMemory fault → MayFind (command_judgement kit players state command) R.OutOfMemory fault
unnamed kit own players state command fault same passed found =
    among kit own players state command (λ j. MayFind j R.OutOfMemory fault) same
    (behind-finds (over_verdict kit state) (command_judgement_in_play kit own state command) R.OutOfMemory fault passed found)

-- the rules refuse the act

pub act_refused : (kit : Kit) (state : GameState) (act : Act) (fault : Refusal) → MayFind (judgement kit state act) R.OutOfMemory fault
    → MayFind (act_judgement kit state (Some act)) R.OutOfMemory fault
act_refused kit state act fault found = found

pub command_refused : (kit : Kit) (own players : List (List ℕ)) (state : GameState) (command : Command) (act : Act) (fault : Refusal) → own ≡ players
    → act_of own command ≡ Some act → over_verdict kit state ≡ None → MayFind (judgement kit state act) R.OutOfMemory fault
    → MayFind (command_judgement kit players state command) R.OutOfMemory fault
command_refused kit own players state command act fault same h passed found =
    unnamed kit own players state command fault same passed
    (named kit own state command act (λ j. MayFind j R.OutOfMemory fault) h (act_refused kit state act fault found))

-- nothing refuses it
pub command_lawful : (kit : Kit) (own players : List (List ℕ)) (state : GameState) (command : Command) (act : Act) → own ≡ players
    → act_of own command ≡ Some act → over_verdict kit state ≡ None → IsVerdict (judgement kit state act) None
    → IsVerdict (command_judgement kit players state command) None
command_lawful kit own players state command act same h passed is =
    let judged = is in
    among kit own players state command (λ j. IsVerdict j None) same
    (behind-is (over_verdict kit state) (command_judgement_in_play kit own state command) None passed
    (named kit own state command act (λ j. IsVerdict j None) h judged))

-- a run, before its words are looked at

pub run_refused : (kit : Kit) (state : GameState) (c : Corp) (sheet : List ℕ) (fault : Refusal) → run_verdict kit state c ≡ Some fault
    → MayFind (act_judgement kit state (Some (A.Run c sheet))) R.OutOfMemory fault
run_refused kit state c sheet fault h =
    act_refused kit state (A.Run c sheet) fault (first-is-found (judgement kit state (A.Run c sheet)) R.OutOfMemory fault (run_alike kit state c sheet ∙ h))

pub best_run_refused : (kit : Kit) (state : GameState) (c : Corp) (sheet certificate : List ℕ) (fault : Refusal) → run_verdict kit state c ≡ Some fault
    → MayFind (act_judgement kit state (Some (A.RunBest c sheet certificate))) R.OutOfMemory fault
best_run_refused kit state c sheet certificate fault h =
    act_refused kit state (A.RunBest c sheet certificate) fault
    (first-is-found (judgement kit state (A.RunBest c sheet certificate)) R.OutOfMemory fault (best_run_alike kit state c sheet certificate ∙ h))

-- once the game is over nothing runs
pub over_unrun : (kit : Kit) (players : List (List ℕ)) (state : GameState) (c : Corp) (fault : Refusal) → over_verdict kit state ≡ Some fault
    → game_run_verdict kit players state c ≡ Some fault
over_unrun kit players state c fault h = check-refuses (over_verdict kit state) (command_judgement_in_play kit players state (Order (O.Run c []))) fault h

-- else it is refused as the rules refuse it
pub run_alone : (kit : Kit) (players : List (List ℕ)) (state : GameState) (c : Corp) (verdict : Option Refusal) → over_verdict kit state ≡ None
    → run_verdict kit state c ≡ verdict → game_run_verdict kit players state c ≡ verdict
run_alone kit players state c verdict passed h =
    ap (λ (o : Option Refusal). option_or o (run_verdict kit state c)) passed ∙ ap (λ (o : Option Refusal). o) h

-- its words want memory, which no check refuses it for

wants : (kit : Kit) (state : GameState) (act : Act) (fault : Refusal) → (judgement kit state act).first ≡ None → fault ≡ R.OutOfMemory
    → MayFind (act_judgement kit state (Some act)) R.OutOfMemory fault
wants kit state act fault h same =
    let P : Refusal → Type 0 = λ f. MayFind (act_judgement kit state (Some act)) R.OutOfMemory f in
    subst P (sym same) (act_refused kit state act R.OutOfMemory (inr (h, refl)))

pub run_wants : (kit : Kit) (state : GameState) (c : Corp) (sheet : List ℕ) (fault : Refusal) → run_verdict kit state c ≡ None → fault ≡ R.OutOfMemory
    → MayFind (act_judgement kit state (Some (A.Run c sheet))) R.OutOfMemory fault
run_wants kit state c sheet fault h same = wants kit state (A.Run c sheet) fault (run_alike kit state c sheet ∙ h) same

pub best_run_wants : (kit : Kit) (state : GameState) (c : Corp) (sheet certificate : List ℕ) (fault : Refusal) → run_verdict kit state c ≡ None → fault ≡ R.OutOfMemory
    → MayFind (act_judgement kit state (Some (A.RunBest c sheet certificate))) R.OutOfMemory fault
best_run_wants kit state c sheet certificate fault h same =
    wants kit state (A.RunBest c sheet certificate) fault (best_run_alike kit state c sheet certificate ∙ h) same

-- each command has one verdict

act_one : ActsHaveOneVerdict → (kit : Kit) (state : GameState) (act : Option Act) → HasOneVerdict (act_judgement kit state act)
act_one law kit state None = settled-one (Some R.NoSuchName)
act_one law kit state (Some act) = law kit state act

in_play_one : ActsHaveOneVerdict → (kit : Kit) (players : List (List ℕ)) (state : GameState) (command : Command)
    → HasOneVerdict (command_judgement_in_play kit players state command)
in_play_one law kit players state (Open others) = settled-one (Some R.WrongStep)
in_play_one law kit players state command = act_one law kit state (act_of players command)

pub command_one : ActsHaveOneVerdict → (kit : Kit) (players : List (List ℕ)) (state : GameState) (command : Command)
    → HasOneVerdict (command_judgement kit players state command)
command_one law kit players state command =
    behind-one (over_verdict kit state) (command_judgement_in_play kit players state command) (in_play_one law kit players state command)
