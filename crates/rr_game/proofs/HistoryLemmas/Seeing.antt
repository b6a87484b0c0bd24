-- The judgement of a table by what it is seen as.
use Rattle.std.proofs.Common.{◌≡◌, ◌⊎◌, ℕ, ◌≤◌, Bool, true, false, ◌&&◌, nat_le, length, List, Option, None, Some, Result, Ok, Err, MatchResult, inl, inr, if◌then◌else◌, refl, sym, ap, subst, arith, ◌∙◌}
use Rattle.std.specs.Option.{option_or}
use Rattle.std.proofs.lemmas.Bool.Decides.{nat_tests}
use Rattle.rr_books.specs.declared.refusal.Refusal.{Refusal}
use Rattle.rr_books.specs.declared.refusal.Refusal.TheVariants as G
use Rattle.rr_code.specs.declared.command.Command.{Command}
use Rattle.rr_kit.specs.declared.kit.Kit.{Kit}
use Rattle.rr_turns.specs.declared.limits.TheConstants.{MOST_COMMANDS}
use Rattle.rr_turns.specs.declared.request.Request.{Request}
use Rattle.rr_turns.specs.declared.request.Request.TheVariants.{Play, Back, Forget}
use Rattle.rr_turns.specs.Judgement.{IsVerdict, Judgement, MayFind, judgement_map, settled}
use Rattle.rr_turns.specs.Kept.{Kept}
use Rattle.rr_turns.proofs.JudgementLemmas.{behind-finds, behind-is, check-refuses, first-is-found, lawful-wants, map-finds, map-is, settled-is}
use Rattle.rr_game.specs.Verdict.{command_judgement}
use Rattle.rr_game.specs.declared.history.table.Table.{Table}
use Rattle.rr_game.specs.declared.history.fault.Fault.{Fault}
use Rattle.rr_game.specs.declared.history.fault.Fault.TheVariants as F
use Rattle.rr_game.specs.History.Fault.{of_game}
use Rattle.rr_game.specs.History.Seeing.{IsSeenAs, MayRefuseBy, Seen, judgement_at, own_judgement_at, plain_judgement, seen_of, turn_verdict_at}
use Rattle.rr_game.specs.History.Tables.{kept_in, turns_in}
use Rattle.rr_game.specs.History.Verdict.{request_judgement, room_verdict, stamp_verdict}

by_full : (b : Bool) (n : ℕ) → nat_le MOST_COMMANDS n ≡ b → MOST_COMMANDS ≤ n → ◌≡◌ {A = Option Fault} (if b then Some F.TooManyCommands else None) (Some F.TooManyCommands)
by_full true n e full = refl
by_full false n e full = absurd (grind (arith, nat_tests))

-- a turn
pub turn_seen : (table : Table) (seen : Seen) → IsSeenAs table seen → (k : ℕ) (b : Bool) → b ≡ (nat_le table.floor k && nat_le k (turns_in table))
    → turn_verdict_at seen k ≡ (if b then None else Some F.TurnNotKept)
turn_seen table seen is k b h =
    let Verdict : Bool → Option Fault = λ x. if x then None else Some F.TurnNotKept in
    sym (ap Verdict h
    ∙ (λ i. Verdict (nat_le (is.kept i).floor k && nat_le k (turns_in table)))
    ∙ (λ i. Verdict (nat_le seen.kept.floor k && nat_le k (is.turns i))))

-- the checks that look at no game

pub plain_stale : (kept : Kept Command) (stamp : ℕ) (request : Request Command) (fault : Fault) → stamp_verdict kept stamp ≡ Some fault
    → (plain_judgement kept stamp request).first ≡ Some fault
plain_stale kept stamp (Play c) fault h = check-refuses (stamp_verdict kept stamp) (settled (room_verdict kept)) fault h
plain_stale kept stamp (Back k) fault h = h
plain_stale kept stamp (Forget k) fault h = h

behind_none : {F : Type 0} (check other : Option F) → check ≡ None → option_or check other ≡ other
behind_none None other h = refl
behind_none (Some fault) other h = absurd cc

pub plain_room : (kept : Kept Command) (stamp : ℕ) (c : Command) (o : Option Fault) → stamp_verdict kept stamp ≡ None → room_verdict kept ≡ o
    → (plain_judgement kept stamp (Play c)).first ≡ o
plain_room kept stamp c o h room = behind_none (stamp_verdict kept stamp) (room_verdict kept) h ∙ room

pub full_room : (kept : Kept Command) (n : ℕ) → n ≡ length kept.commands → MOST_COMMANDS ≤ n → room_verdict kept ≡ Some F.TooManyCommands
full_room kept n all full = by_full (nat_le MOST_COMMANDS (length kept.commands)) (length kept.commands) refl (omega (arith, all, full))

-- a refusal with other faults, and one for want of memory

pub refuses_map : {F G : Type 0} (f : F → G) (j : Judgement F) (wanting : F) (request : Request Command) (fault : F)
    → MayRefuseBy j wanting request fault → MayRefuseBy (judgement_map f j) (f wanting) request (f fault)
refuses_map f j wanting (Back k) fault (inl found) = inl (map-finds f j wanting fault found)
refuses_map f j wanting (Back k) fault (inr lawful) = inr (map-is f j None lawful)
refuses_map f j wanting (Play c) fault found = map-finds f j wanting fault found
refuses_map f j wanting (Forget k) fault found = map-finds f j wanting fault found

pub refuses_wanting : {F : Type 0} (j : Judgement F) (wanting : F) (request : Request Command) (fault : F) → IsVerdict j None → fault ≡ wanting
    → MayRefuseBy j wanting request fault
refuses_wanting j wanting (Back k) fault lawful same = inr lawful
refuses_wanting j wanting (Play c) fault lawful same = lawful-wants j wanting fault lawful same
refuses_wanting j wanting (Forget k) fault lawful same = lawful-wants j wanting fault lawful same

-- what is kept is judged as its play
pub judged_alike : (kit : Kit) (kept : Kept Command) (stamp : ℕ) (request : Request Command) (verdict : Option Fault)
    → IsVerdict (judgement_at kit (seen_of kit kept) stamp request) verdict → IsVerdict (request_judgement kit kept stamp request) verdict
judged_alike kit kept stamp (Play c) verdict h = h
judged_alike kit kept stamp (Back k) verdict h = h
judged_alike kit kept stamp (Forget k) verdict h = h

-- what holds whatever the result is
pub always : {A E : Type 0} (result : Result A E) (P : Type 0) (Q : E → Type 0) → P → ((fault : E) → Q fault) → MatchResult result (λ _. P) Q
always (Ok value) P Q at_ok at_err = at_ok
always (Err fault) P Q at_ok at_err = at_err fault

module _ (kit : Kit) (table : Table) (seen : Seen) (is : IsSeenAs table seen) where
  room_seen : (o : Option Fault) → room_verdict (kept_in table) ≡ o → room_verdict seen.kept ≡ o
  room_seen o h = subst (λ (k : Kept Command). room_verdict k ≡ o) is.kept h

  -- there is no room for a command
  pub seen_full : (c : Command) (n : ℕ) → n ≡ length table.kept.commands → MOST_COMMANDS ≤ n → MayFind (own_judgement_at kit seen (Play c)) F.OutOfMemory F.TooManyCommands
  seen_full c n all full =
      let here = by_full (nat_le MOST_COMMANDS (length table.kept.commands)) (length table.kept.commands) refl (omega (arith, all, full)) in
      let judged = judgement_map of_game (command_judgement kit seen.players seen.state c) in
      first-is-found (own_judgement_at kit seen (Play c)) F.OutOfMemory F.TooManyCommands
      (check-refuses (room_verdict seen.kept) judged F.TooManyCommands (room_seen (Some F.TooManyCommands) here))

  module _ (c : Command) (room : room_verdict (kept_in table) ≡ None) where
    -- its position refuses a command
    pub seen_refuses : (fault : Refusal) → MayFind (command_judgement kit table.game.players seen.state c) G.OutOfMemory fault
        → MayFind (own_judgement_at kit seen (Play c)) F.OutOfMemory (of_game fault)
    seen_refuses fault found =
        let judged = command_judgement kit seen.players seen.state c in
        let own = subst (λ (ps : List (List ℕ)). MayFind (command_judgement kit ps seen.state c) G.OutOfMemory fault) is.players found in
        behind-finds (room_verdict seen.kept) (judgement_map of_game judged) F.OutOfMemory (of_game fault) (room_seen None room)
        (map-finds of_game judged G.OutOfMemory fault own)

    -- or it doesn't
    pub seen_lawful : IsVerdict (command_judgement kit table.game.players seen.state c) None → IsVerdict (own_judgement_at kit seen (Play c)) None
    seen_lawful lawful =
        let judged = command_judgement kit seen.players seen.state c in
        let own = subst (λ (ps : List (List ℕ)). IsVerdict (command_judgement kit ps seen.state c) None) is.players lawful in
        behind-is (room_verdict seen.kept) (judgement_map of_game judged) None (room_seen None room) (map-is of_game judged None own)

    -- and then memory may be wanted
    pub seen_wants : (fault : Fault) → IsVerdict (command_judgement kit table.game.players seen.state c) None → fault ≡ F.OutOfMemory
        → MayFind (own_judgement_at kit seen (Play c)) F.OutOfMemory fault
    seen_wants fault lawful same = lawful-wants (own_judgement_at kit seen (Play c)) F.OutOfMemory fault (seen_lawful lawful) same

  -- the stamp
  pub stamp_seen : (stamp : ℕ) (o : Option Fault) → stamp_verdict (kept_in table) stamp ≡ o → stamp_verdict seen.kept stamp ≡ o
  stamp_seen stamp o h = subst (λ (k : Kept Command). stamp_verdict k stamp ≡ o) is.kept h

  pub seen_stale : (stamp : ℕ) (request : Request Command) (fault : Fault) → stamp_verdict (kept_in table) stamp ≡ Some fault → MayRefuseBy (judgement_at kit seen stamp request) F.OutOfMemory request fault
  seen_stale stamp (Back k) fault h =
      inl (first-is-found (judgement_at kit seen stamp (Back k)) F.OutOfMemory fault (check-refuses (stamp_verdict seen.kept stamp) (own_judgement_at kit seen (Back k)) fault (stamp_seen stamp (Some fault) h)))
  seen_stale stamp (Play c) fault h =
      first-is-found (judgement_at kit seen stamp (Play c)) F.OutOfMemory fault (check-refuses (stamp_verdict seen.kept stamp) (own_judgement_at kit seen (Play c)) fault (stamp_seen stamp (Some fault) h))
  seen_stale stamp (Forget k) fault h =
      first-is-found (judgement_at kit seen stamp (Forget k)) F.OutOfMemory fault (check-refuses (stamp_verdict seen.kept stamp) (own_judgement_at kit seen (Forget k)) fault (stamp_seen stamp (Some fault) h))

  module _ (stamp : ℕ) (present : stamp_verdict (kept_in table) stamp ≡ None) where
    pub lawful_at : (request : Request Command) → IsVerdict (own_judgement_at kit seen request) None → IsVerdict (judgement_at kit seen stamp request) None
    lawful_at request h = behind-is (stamp_verdict seen.kept stamp) (own_judgement_at kit seen request) None (stamp_seen stamp None present) h

    pub found_at : (request : Request Command) (fault : Fault) → MayFind (own_judgement_at kit seen request) F.OutOfMemory fault → MayFind (judgement_at kit seen stamp request) F.OutOfMemory fault
    found_at request fault h = behind-finds (stamp_verdict seen.kept stamp) (own_judgement_at kit seen request) F.OutOfMemory fault (stamp_seen stamp None present) h

    -- a take-back that is refused: its turn isn't kept, or nothing refuses it but what is played again
    pub back_at : (k : ℕ) (fault : Fault) → (turn_verdict_at seen k ≡ Some fault) ⊎ (turn_verdict_at seen k ≡ None) → MayRefuseBy (judgement_at kit seen stamp (Back k)) F.OutOfMemory (Back k) fault
    back_at k fault (inl refused) = inl (found_at (Back k) fault (first-is-found (own_judgement_at kit seen (Back k)) F.OutOfMemory fault refused))
    back_at k fault (inr kept) = inr (lawful_at (Back k) (settled-is (turn_verdict_at seen k) None (sym kept)))
