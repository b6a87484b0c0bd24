use Rattle.std.proofs.Common.{◌≡◌, ◌≢◌, ap, subst, inl, inr, true, List, [], ◌∷◌, Option}
use Rattle.clap.specs.Walk.{Row, texts}
use Rattle.clap.specs.Kinds.{HasKind, IsAmong, Kinds}
use Rattle.clap.specs.Words.{App, HasMatchesOf, Text, app_of, fault_of, is_simple, is_simple_and_free, kind_of, subcommand_of, subcommand_rows_of}
use Rattle.clap.specs.declared.error.Error.{Error}
use Rattle.clap.specs.declared.error.kind.ErrorKind.{ErrorKind}
use Rattle.clap.specs.declared.parser.matches.ArgMatches.{ArgMatches}
use Rattle.rr_cli.specs.CommandLine.{moderate}
use Rattle.rr_cli.specs.Plan.{IsTaken, PlanAt}
use Rattle.rr_cli.specs.declared.plans.Plan.{Plan}
use Rattle.rr_cli.proofs.Presence.{some_fault}
use Rattle.rr_cli.proofs.Taken.{taken}
use Rattle.rr_cli.proofs.arguments.plan.Goals as goal

-- what a parse says of its command, which is `moderate`
taken_as : (command : App) (words : List Text) → command ≡ moderate → (is_simple_and_free command ≡ true → fault_of command words ≡ []) → IsTaken words
taken_as command words same h = subst (λ (a : App). fault_of a words ≡ []) same (h (ap is_simple_and_free same))

fails_as : (command : App) (words : List Text) (e : Error) → command ≡ moderate → (is_simple_and_free command ≡ true → HasKind (fault_of command words) e)
    → HasKind (fault_of moderate words) e
fails_as command words e same h = subst (λ (a : App). HasKind (fault_of a words) e) same (h (ap is_simple_and_free same))

met_as : (command : App) (words : List Text) (m : ArgMatches) → command ≡ moderate → HasMatchesOf command words m → subcommand_rows_of m ≡ subcommand_of moderate words
met_as command words m same h =
    subst (λ (a : App). subcommand_rows_of m ≡ subcommand_of a words) same (h (ap is_simple same)).1

matched_as : (plan : Plan) (found met : Option (Text × List Row)) → found ≡ met → PlanAt plan found → PlanAt plan met
matched_as plan found met same at = subst (λ (it : Option (Text × List Row)). PlanAt plan it) same at

some_among : (k : ErrorKind) (kinds : Kinds) → IsAmong k kinds → kinds ≢ []
some_among k [] among = absurd among
some_among k (x ∷ xs) among = some_fault x xs

pub plan_of-requires : goal.plan_of-requires
plan_of-requires c =
    let words = texts c.args.words.now in
    let is_taken = taken_as (app_of c.in_ok-command.command) words c.in_ok-command.ensures c.in-Ok.ensures.kinds in
    let met = met_as (app_of c.in_ok-command.command) words c.in-Ok.matches c.in_ok-command.ensures c.in-Ok.ensures.matches in
    rw met (taken words is_taken)

pub returns-in_ok-plan_of-in-Ok-clause-planned : goal.returns-in_ok-plan_of-in-Ok-clause-planned
returns-in_ok-plan_of-in-Ok-clause-planned c =
    let words = texts c.args.words.now in
    let command = app_of c.in_ok-command.command in record {
      taken = taken_as command words c.in_ok-command.ensures c.in-Ok.ensures.kinds;
      matched = matched_as c.in_ok-plan_of-in-Ok.field-0 _ _ (met_as command words c.in-Ok.matches c.in_ok-command.ensures c.in-Ok.ensures.matches) c.in_ok-plan_of-in-Ok.ensures;
    }

pub returns-in-Err-clause-refused : goal.returns-in-Err-clause-refused
returns-in-Err-clause-refused c =
    let words = texts c.args.words.now in
    let fails = fails_as (app_of c.in_ok-command.command) words c.in-Err.error c.in_ok-command.ensures c.in-Err.ensures.kinds in
    elim fails [
      | inl memory ↦ inl (c.refusal.ensures memory)
      | inr among ↦ inr (record { has_fault = some_among (kind_of c.in-Err.error) _ among })
    ]
