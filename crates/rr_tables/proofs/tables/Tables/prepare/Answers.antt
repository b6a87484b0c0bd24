use Rattle.std.proofs.Common.{inr, refl, bytes_eq, option_map}
use Rattle.std.proofs.lemmas.Result.{err_from_is_err_and}
use Rattle.indexmap.specs.IndexMap.{get}
use Rattle.rr_game.proofs.HistoryLemmas.Seeing.{refuses_wanting}
use Rattle.rr_turns.proofs.JudgementLemmas.{lawful-wants}
use Rattle.rr_tables.specs.declared.records.fault.Fault.TheVariants as R
use Rattle.rr_tables.specs.Records.World.{step_judgement}
use Rattle.rr_tables.specs.Seeing.{step_judgement_at}
use Rattle.rr_tables.specs.Tables.{kept_in_box}
use Rattle.rr_tables.proofs.tables.Tables.prepare.Goals as goal

pub returns-in_err-change-clause-same : goal.returns-in_err-change-clause-same
returns-in_err-change-clause-same c = record { kit = refl; world = refl; lent = refl; table = refl; played = λ all. all; snapshots = λ all. all }

pub returns-in_err-reserve-clause-verdict : goal.returns-in_err-reserve-clause-verdict
returns-in_err-reserve-clause-verdict c played =
    let table = option_map kept_in_box (get bytes_eq c.args.self.now.map c.args.name.now) in
    let p = err_from_is_err_and c.from_residual-in_err-reserve.result c.from_residual-in_err-reserve.ensures.1 in
    rw (p.1, p.2)
    (lawful-wants (step_judgement c.args.self.now.kit table c.args.stamp c.args.request.now) R.OutOfMemory _ (c.in_ok-change.ensures.verdict played) c.in_err-reserve.ensures.memory)

pub returns-in_err-reserve-clause-judged : goal.returns-in_err-reserve-clause-judged
returns-in_err-reserve-clause-judged c = λ seen is.
    let p = err_from_is_err_and c.from_residual-in_err-reserve.result c.from_residual-in_err-reserve.ensures.1 in
    rw (p.1, p.2)
    (refuses_wanting (step_judgement_at c.args.self.now.kit seen c.args.stamp c.args.request.now) R.OutOfMemory c.args.request.now _
    (c.in_ok-change.ensures.judged seen is) c.in_err-reserve.ensures.memory)

pub returns-in_err-reserve-clause-plain : goal.returns-in_err-reserve-clause-plain
returns-in_err-reserve-clause-plain c =
    let p = err_from_is_err_and c.from_residual-in_err-reserve.result c.from_residual-in_err-reserve.ensures.1 in
    rw p.1 (inr c.in_ok-change.ensures.plain)
