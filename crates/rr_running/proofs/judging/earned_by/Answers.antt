use Rattle.std.proofs.lemmas.Result.{err_from_is_err_and}
use Rattle.rr_running.proofs.Bound.{legal_most}
use Rattle.rr_running.proofs.Judged.{broken, run_told, unread, words_earn}
use Rattle.rr_running.proofs.judging.earned_by.Goals as goal

pub returns-in_err-sheet-clause-judged : goal.returns-in_err-sheet-clause-judged
returns-in_err-sheet-clause-judged c =
    let p = err_from_is_err_and c.from_residual.result c.from_residual.ensures.1 in
    rw (p.1, p.2) (unread c.args.net.now c.args.words.now _ c.in_err-sheet.ensures)

pub returns-in_err-earned-clause-judged : goal.returns-in_err-earned-clause-judged
returns-in_err-earned-clause-judged c =
    let p = err_from_is_err_and c.from_residual-in_err-earned.result c.from_residual-in_err-earned.ensures.1 in
    rw (p.1, p.2) (broken c.args.net.now c.args.words.now c.in_ok-sheet.sheet _ (c.in_ok-sheet.ensures {u = tt}) c.in_err-earned.ensures.judged)

pub returns-clause-judged : goal.returns-clause-judged
returns-clause-judged c = (
  run_told c.args.net.now c.args.words.now c.in_ok-sheet.sheet c.in_ok-earned.earned (c.in_ok-sheet.ensures {u = tt}) (c.in_ok-earned.ensures {u = tt}).judged,
  words_earn c.args.net.now c.args.words.now c.in_ok-sheet.sheet c.in_ok-earned.earned (c.in_ok-sheet.ensures {u = tt}) (c.in_ok-earned.ensures {u = tt}).judged,
)

pub returns-clause-greatest : goal.returns-clause-greatest
returns-clause-greatest c =
    legal_most c.args.net.now c.in_ok-sheet.sheet c.in_ok-earned.earned c.requires.values c.requires.centres c.requires.trains (c.in_ok-earned.ensures {u = tt}).judged
