-- The verdict on a record's request that tables refuse.
use Rattle.std.proofs.Common.{◌≡◌, ◌⊎◌, ℕ, List, length, Option, Some, None, Result, Ok, Err, inl, inr, refl, subst}
use Rattle.rr_code.specs.declared.command.Command.{Command}
use Rattle.rr_code.specs.declared.command.Command.TheVariants.{Open}
use Rattle.rr_code.specs.declared.fault.Fault as code
use Rattle.rr_code.specs.Request.{SpellsRecord}
use Rattle.rr_game.specs.History.Laws.{RequestsHaveOneVerdict}
use Rattle.rr_game.specs.History.Verdict.{request_judgement}
use Rattle.rr_kit.specs.declared.kit.Kit.{Kit}
use Rattle.rr_log.specs.declared.fault.Fault as file
use Rattle.rr_log.specs.Lent.{Lent}
use Rattle.rr_tables.specs.declared.records.fault.Fault as rules
use Rattle.rr_tables.specs.declared.records.fault.Fault.TheVariants as R
use Rattle.rr_tables.specs.Records.Fault.{of_table}
use Rattle.rr_tables.specs.Records.Lines.{IsUnlawful, record_judgement}
use Rattle.rr_tables.specs.Records.World.{TableState, World, judgement_in, opening_verdict, present_stamp, step_judgement, table_named, world_judgement}
use Rattle.rr_tables.specs.declared.fault.Fault as tables
use Rattle.rr_tables.specs.declared.fault.Fault.TheVariants as T
use Rattle.rr_tables.specs.Taking.{MayRefuse, Passed}
use Rattle.rr_turns.specs.declared.request.Request.{Request}
use Rattle.rr_turns.specs.declared.request.Request.TheVariants.{Play}
use Rattle.rr_turns.specs.Judgement.{HasOneVerdict, IsVerdict, MayFind}
use Rattle.rr_turns.proofs.JudgementLemmas.{map-one, settled-one}
use Rattle.rr_pages.specs.declared.fault.Damage.TheVariants.{Records}
use Rattle.rr_store.specs.declared.recovery.fault.Fault.TheVariants as F
use Rattle.rr_store.specs.Recovery.Taking.{of_tables}

-- the verdict on a request that tables refuse

step_one : RequestsHaveOneVerdict → (kit : Kit) (there : Option TableState) (stamp : ℕ) (request : Request Command) → HasOneVerdict (step_judgement kit there stamp request)
step_one law kit None stamp request = settled-one (Some R.NoSuchTable)
step_one law kit (Some table) stamp request = map-one of_table (request_judgement kit table stamp request) (law kit table stamp request)

world_one : RequestsHaveOneVerdict → (kit : Kit) (there : Option TableState) (n stamp : ℕ) (request : Request Command) → HasOneVerdict (world_judgement kit there n stamp request)
world_one law kit there n stamp (Play (Open players)) = settled-one (opening_verdict there n stamp)
world_one law kit there n stamp request = step_one law kit there stamp request

abbrev pub Reads : Type 0
Reads = List ℕ × Request Command

same_read : (x y : Reads) (r s : Result Reads code.Fault) → r ≡ Ok x → s ≡ Ok y → r ≡ s → x ≡ y
same_read x y r s p q e = cc

-- a record spells one request
abbrev pub SpellsAlone : List ℕ → List ℕ → Request Command → Type 0
SpellsAlone bytes name request =
    (table : List ℕ) (other : Request Command) → SpellsRecord bytes table other
    → let r : Result Reads code.Fault = Ok (name, request) in r ≡ Ok (table, other)

module _ (law : RequestsHaveOneVerdict) (kit : Kit) (world : World) (bytes name : List ℕ) (request : Request Command) (only : SpellsAlone bytes name request) (stamp : ℕ)
    (at : stamp ≡ present_stamp (table_named world name)) where
  unlawful : (fault : rules.Fault) → IsVerdict (judgement_in kit world stamp name request) (Some fault) → IsUnlawful kit world bytes
  unlawful fault refused table other spells lawful =
      let same = same_read (name, request) (table, other) _ _ refl refl (only table other spells) in
      let here = subst (λ (n : ℕ). IsVerdict (judgement_in kit world n name request) (Some fault)) at refused in
      let there = subst (λ (x : Reads). IsVerdict (record_judgement kit world x.0 x.1) (Some fault)) same here in
      let both : None ≡ Some fault = world_one law kit (table_named world table) (length world) (present_stamp (table_named world table)) other None (Some fault) lawful there in
      absurd (cc both)

  by_rules : (fault : rules.Fault) → (fault ≡ R.OutOfMemory → ⊥) → MayFind (judgement_in kit world stamp name request) R.OutOfMemory fault → IsUnlawful kit world bytes
  by_rules fault other (inl refused) = unlawful fault refused
  by_rules fault other (inr wants) = absurd (other wants.1)

  -- where what keeps the record doesn't refuse, the rules do if the tables were played, or memory is wanted
  module _ {J P : Type 0} (Keeps : J → Lent → List ℕ → Result (Unit {0}) file.Fault → J → Type 0) (old new : J) (lent : Lent) (line : List ℕ)
      (never : (cause : file.Fault) → Keeps old lent line (Err cause) new → ⊥) where
    pub refused_record : (fault : tables.Fault) → (P → MayRefuse (judgement_in kit world stamp name request) fault) → Passed {A = ℕ} Keeps old lent line new (Err fault)
        → (of_tables fault ≡ F.OutOfMemory) ⊎ ((of_tables fault ≡ F.Damaged Records) × (P → IsUnlawful kit world bytes))
    refused_record (T.Rules R.OutOfMemory) found passed = inl refl
    refused_record (T.Rules (R.Game cause)) found passed = inr (refl, λ played. by_rules (R.Game cause) (λ e. absurd cc) (found played))
    refused_record (T.Rules (R.StaleStamp now)) found passed = inr (refl, λ played. by_rules (R.StaleStamp now) (λ e. absurd cc) (found played))
    refused_record (T.Rules R.TurnNotKept) found passed = inr (refl, λ played. by_rules R.TurnNotKept (λ e. absurd cc) (found played))
    refused_record (T.Rules R.TooManyCommands) found passed = inr (refl, λ played. by_rules R.TooManyCommands (λ e. absurd cc) (found played))
    refused_record (T.Rules R.TooManyTables) found passed = inr (refl, λ played. by_rules R.TooManyTables (λ e. absurd cc) (found played))
    refused_record (T.Rules R.NoSuchTable) found passed = inr (refl, λ played. by_rules R.NoSuchTable (λ e. absurd cc) (found played))
    refused_record (T.File cause) found passed = absurd (never cause passed)
