-- A lawful request has the present stamp of its table, and no rule refuses one by what is the file's or the device's.
use Rattle.std.proofs.Common.{◌≡◌, ℕ, ◌==◌, Bool, true, false, not, List, Option, None, Some, if◌then◌else◌, refl, sym, subst, arith}
use Rattle.std.proofs.lemmas.Bool.Decides.{nat_tests}
use Rattle.rr_code.specs.declared.command.Command.{Command}
use Rattle.rr_code.specs.declared.command.Command.TheVariants.{Open}
use Rattle.rr_game.specs.declared.history.fault.Fault as table
use Rattle.rr_game.specs.History.Verdict.{own_judgement, request_judgement, stamp_verdict}
use Rattle.rr_kit.specs.declared.kit.Kit.{Kit}
use Rattle.rr_tables.specs.declared.records.fault.Fault as rules
use Rattle.rr_tables.specs.declared.records.fault.Fault.TheVariants as R
use Rattle.rr_tables.specs.Records.Fault.{of_table}
use Rattle.rr_tables.specs.Records.World.{TableState, World, judgement_in, opening_verdict, present_stamp, step_judgement, table_named, world_judgement}
use Rattle.rr_turns.specs.declared.request.Request.{Request}
use Rattle.rr_turns.specs.declared.request.Request.TheVariants.{Play}
use Rattle.rr_turns.specs.Judgement.{IsVerdict}
use Rattle.rr_turns.proofs.JudgementLemmas.{check-passed, is-settled, lawful-map}
use Rattle.rr_store.specs.declared.fault.Fault.{Fault}
use Rattle.rr_store.specs.declared.fault.Fault.TheVariants as F
use Rattle.rr_store.specs.Fault.{of_rules}

passed_test : (b : Bool) (f : rules.Fault) (rest : Option rules.Fault) → (if not b then Some f else rest) ≡ None → b ≡ true
passed_test true f rest h = refl
passed_test false f rest h = absurd cc

passed_test_table : (b : Bool) (f : table.Fault) (rest : Option table.Fault) → (if not b then Some f else rest) ≡ None → b ≡ true
passed_test_table true f rest h = refl
passed_test_table false f rest h = absurd cc

same_number : (n m : ℕ) → (n == m) ≡ true → n ≡ m
same_number n m h = grind (arith, nat_tests)

present_step : (kit : Kit) (t : Option TableState) (stamp : ℕ) (c : Request Command) → IsVerdict (step_judgement kit t stamp c) None → stamp ≡ present_stamp t
present_step kit None stamp c h = absurd cc
present_step kit (Some t) stamp c h =
    let lawful = lawful-map of_table (request_judgement kit t stamp c) h in
    sym (same_number t.stamp stamp (passed_test_table (t.stamp == stamp) _ _ (check-passed (stamp_verdict t stamp) (own_judgement kit t c) lawful)))

present_at : (kit : Kit) (t : Option TableState) (n stamp : ℕ) (c : Request Command) → IsVerdict (world_judgement kit t n stamp c) None → stamp ≡ present_stamp t
present_at kit None n stamp (Play (Open players)) h = same_number stamp 0 (passed_test (stamp == 0) _ _ (sym (is-settled (opening_verdict None n stamp) None h)))
present_at kit (Some t) n stamp (Play (Open players)) h = absurd cc
present_at kit t n stamp c h = present_step kit t stamp c h

pub present : (kit : Kit) (tables : World) (stamp : ℕ) (name : List ℕ) (c : Request Command) → IsVerdict (judgement_in kit tables stamp name c) None → stamp ≡ present_stamp (table_named tables name)
present kit tables stamp name c h = present_at kit (table_named tables name) _ stamp c h

-- a rule's fault is neither of the device nor of the file, nor of a store that is broken

abbrev IsOfFile : Fault → Type 0
IsOfFile F.DeviceFailed = Unit {0}
IsOfFile F.FileFull = Unit {0}
IsOfFile F.OpenAgain = Unit {0}
IsOfFile _ = ⊥

rules_tell : (fault : rules.Fault) → IsOfFile (of_rules fault) → ⊥
rules_tell (R.Game fault) is = is
rules_tell (R.StaleStamp stamp) is = is
rules_tell R.TurnNotKept is = is
rules_tell R.TooManyCommands is = is
rules_tell R.TooManyTables is = is
rules_tell R.NoSuchTable is = is
rules_tell R.OutOfMemory is = is

pub no_failure : (fault : rules.Fault) → of_rules fault ≡ F.DeviceFailed → ⊥
no_failure fault is = rules_tell fault (let P : Fault → Type 0 = IsOfFile in subst P (sym is) tt)

pub no_full : (fault : rules.Fault) → of_rules fault ≡ F.FileFull → ⊥
no_full fault is = rules_tell fault (let P : Fault → Type 0 = IsOfFile in subst P (sym is) tt)

pub no_again : (fault : rules.Fault) → of_rules fault ≡ F.OpenAgain → ⊥
no_again fault is = rules_tell fault (let P : Fault → Type 0 = IsOfFile in subst P (sym is) tt)
