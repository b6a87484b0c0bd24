use Rattle.std.proofs.Common.{◌≡◌, ◌∙◌, Option, None, Some, MatchResult, bytes_eq, option_map, inl, ap, sym, subst}
use Rattle.indexmap.specs.IndexMap.{get}
use Rattle.rr_game.specs.declared.history.table.Table.{Table}
use Rattle.rr_game.specs.History.Seeing.{Heeds, IsSeenAs, MayRefuseBy, Seen}
use Rattle.rr_game.specs.History.Tables.{kept_in}
use Rattle.rr_turns.specs.Judgement.{IsVerdict}
use Rattle.rr_tables.specs.declared.records.fault.Fault.TheVariants as R
use Rattle.rr_tables.specs.Records.World.{TableState}
use Rattle.rr_tables.specs.Seeing.{plain_step, step_judgement_at}
use Rattle.rr_tables.specs.Tables.{kept_in_box}
use Rattle.rr_tables.proofs.SeeingLemmas.{seen_lacking, seen_nowhere, seen_there}
use Rattle.rr_tables.proofs.tables.Tables.judge.Goals as goal

pub returns-in-Some-clause-judged : goal.returns-in-Some-clause-judged
returns-in-Some-clause-judged c = λ seen is.
    let kit = c.args.self.now.kit in
    let request = c.args.request.now in
    let there : get bytes_eq c.args.self.now.map c.args.name.now ≡ Some c.in-Some.table.now = sym c.in-Some.ensures.value in
    let found = seen_there c.args.self.now c.args.name.now c.in-Some.table.now there seen is in
    let here = subst (λ (t : Table). IsSeenAs t found.0) (sym c.deref.ensures) found.2 in
    let Judged : Option Seen → Type 0 = λ o. MatchResult c.judge_at.result (λ _. IsVerdict (step_judgement_at kit o c.args.stamp request) None)
    (MayRefuseBy (step_judgement_at kit o c.args.stamp request) R.OutOfMemory request) in
    subst Judged (sym found.1) (c.judge_at.ensures.judged found.0 here)

pub returns-in-None-clause-judged : goal.returns-in-None-clause-judged
returns-in-None-clause-judged c = λ seen is.
    seen_lacking c.args.self.now.kit seen c.args.stamp c.args.request.now (seen_nowhere c.args.self.now c.args.name.now (sym c.in-None.ensures.value) seen is)

pub returns-in-Some-clause-plain : goal.returns-in-Some-clause-plain
returns-in-Some-clause-plain c =
    let there : get bytes_eq c.args.self.now.map c.args.name.now ≡ Some c.in-Some.table.now = sym c.in-Some.ensures.value in
    let same : Some (kept_in c.deref.result.now) ≡ option_map kept_in_box (get bytes_eq c.args.self.now.map c.args.name.now) =
    ap (λ (t : Table). Some (kept_in t)) c.deref.ensures ∙ sym (ap (option_map kept_in_box) there) in
    let Plain : Option TableState → Type 0 = λ o. MatchResult c.judge_at.result (λ _. plain_step o c.args.stamp c.args.request.now ≡ None) (Heeds (plain_step o c.args.stamp c.args.request.now)) in
    subst Plain same c.judge_at.ensures.plain

pub returns-in-None-clause-plain : goal.returns-in-None-clause-plain
returns-in-None-clause-plain c =
    let absent : get bytes_eq c.args.self.now.map c.args.name.now ≡ None = sym c.in-None.ensures.value in
    inl (ap (λ o. plain_step (option_map kept_in_box o) c.args.stamp c.args.request.now) absent)
