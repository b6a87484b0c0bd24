use Rattle.std.proofs.Common.{None, ap, option_map, arith}
use Rattle.std.proofs.lemmas.Result.{err_from_is_err_and}
use Rattle.rr_turns.proofs.JudgementLemmas.{map-is}
use Rattle.rr_game.specs.declared.history.fault.Fault.TheVariants as H
use Rattle.rr_game.specs.History.Seeing.{judgement_at, plain_judgement}
use Rattle.rr_game.proofs.HistoryLemmas.Seeing.{refuses_map}
use Rattle.rr_game.specs.History.Tables.{kept_in, turns_in}
use Rattle.rr_tables.specs.Records.Fault.{of_table}
use Rattle.rr_tables.proofs.PlayedTables.{plays_counted}
use Rattle.rr_tables.proofs.SeeingLemmas.{heeds_map}
use Rattle.rr_tables.proofs.WritableLemmas.{writable_changed}
use Rattle.rr_tables.proofs.taking.judge_at.Goals as goal

pub returns-clause-change : goal.returns-clause-change
returns-clause-change c =
    let table = c.args.table.now in
    record {
      by = c.in_ok-change.ensures.change;
      fits = c.in_ok-change.ensures.fits;
      writable = writable_changed c.args.kit.now (kept_in table) (turns_in table) c.args.request.now c.in_ok-change.change
          c.in_ok-change.ensures.kept (omega (arith, table.few, table.counted, table.game.within.few)) c.requires.writable;
      shows = c.in_ok-change.ensures.shows;
      counted = plays_counted c.args.kit.now table c.args.request.now c.in_ok-change.change.plays c.in_ok-change.ensures.shows.turn c.in_ok-change.ensures.plays;
    }

pub returns-in_err-change-clause-judged : goal.returns-in_err-change-clause-judged
returns-in_err-change-clause-judged c = λ seen is.
    let p = err_from_is_err_and c.from_residual.result c.from_residual.ensures.1 in
    rw (p.1, p.2)
    (refuses_map of_table (judgement_at c.args.kit.now seen c.args.stamp c.args.request.now) H.OutOfMemory c.args.request.now _ (c.in_err-change.ensures.judged seen is))

pub returns-clause-judged : goal.returns-clause-judged
returns-clause-judged c = λ seen is.
    map-is of_table (judgement_at c.args.kit.now seen c.args.stamp c.args.request.now) None (c.in_ok-change.ensures.judged seen is)

pub returns-in_err-change-clause-plain : goal.returns-in_err-change-clause-plain
returns-in_err-change-clause-plain c =
    let p = err_from_is_err_and c.from_residual.result c.from_residual.ensures.1 in
    rw (p.1, p.2) (heeds_map of_table (plain_judgement (kept_in c.args.table.now) c.args.stamp c.args.request.now).first _ c.in_err-change.ensures.plain)

pub returns-clause-plain : goal.returns-clause-plain
returns-clause-plain c = ap (option_map of_table) c.in_ok-change.ensures.plain
