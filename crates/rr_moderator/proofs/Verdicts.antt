-- Each request has one verdict at a table, and a refusal by it is one of the rules.
use Rattle.std.proofs.Common.{◌≡◌, ℕ, List, Option, None, Some, option_map}
use Rattle.rr_code.specs.declared.command.Command.{Command}
use Rattle.rr_code.specs.declared.command.Command.TheVariants.{Open}
use Rattle.rr_game.specs.History.Laws.{RequestsHaveOneVerdict}
use Rattle.rr_game.specs.History.Verdict.{request_judgement}
use Rattle.rr_kit.specs.declared.kit.Kit.{Kit}
use Rattle.rr_tables.specs.declared.records.fault.Fault as judge
use Rattle.rr_tables.specs.declared.records.fault.Fault.TheVariants as J
use Rattle.rr_tables.specs.Records.Fault.{of_table}
use Rattle.rr_tables.specs.Records.World.{TableState, World, opening_verdict, step_judgement, world_judgement}
use Rattle.rr_tables.specs.Records.World as rules
use Rattle.rr_store.specs.declared.fault.Fault as store
use Rattle.rr_store.specs.Fault as stored
use Rattle.rr_store.specs.World.{judgement_in}
use Rattle.rr_turns.specs.declared.request.Request.{Request}
use Rattle.rr_turns.specs.declared.request.Request.TheVariants.{Play}
use Rattle.rr_turns.specs.Judgement.{HasOneVerdict, IsVerdict, Judgement}
use Rattle.rr_turns.proofs.JudgementLemmas.{is-map, map-one, settled-one}

step_one : RequestsHaveOneVerdict → (kit : Kit) (t : Option TableState) (stamp : ℕ) (c : Request Command) → HasOneVerdict (step_judgement kit t stamp c)
step_one law kit None stamp c = settled-one (Some J.NoSuchTable)
step_one law kit (Some t) stamp c = map-one of_table (request_judgement kit t stamp c) (law kit t stamp c)

pub world_one : RequestsHaveOneVerdict → (kit : Kit) (t : Option TableState) (n stamp : ℕ) (c : Request Command) → HasOneVerdict (world_judgement kit t n stamp c)
world_one law kit t n stamp (Play (Open players)) = settled-one (opening_verdict t n stamp)
world_one law kit t n stamp c = step_one law kit t stamp c

some_same : {X : Type 0} (x y : X) → Some x ≡ Some y → x ≡ y
some_same x y e = cc

cause_of : {F G : Type 0} (f : F → G) (j : Judgement F) (fault : G) (found : Option F) → IsVerdict j found → Some fault ≡ option_map f found
    → (cause : F) × IsVerdict j (Some cause) × (fault ≡ f cause)
cause_of f j fault None is same = absurd (cc same)
cause_of f j fault (Some cause) is same = (cause, is, some_same fault (f cause) same)

-- what refuses a request at a store is one of the rules
pub refused_by_rules : (kit : Kit) (tables : World) (stamp : ℕ) (name : List ℕ) (c : Request Command) (fault : store.Fault)
    → IsVerdict (judgement_in kit tables stamp name c) (Some fault)
    → (cause : judge.Fault) × IsVerdict (rules.judgement_in kit tables stamp name c) (Some cause) × (fault ≡ stored.of_rules cause)
refused_by_rules kit tables stamp name c fault is =
    let found = is-map stored.of_rules (rules.judgement_in kit tables stamp name c) (Some fault) is in
    cause_of stored.of_rules (rules.judgement_in kit tables stamp name c) fault found.0 found.1 found.2
