use Rattle.std.proofs.Common.{length, refl, inr, arith}
use Rattle.std.proofs.lemmas.Result.{err_from_is_err_and}
use Rattle.rr_checker.proofs.StepLemmas.{yes, no}
use Rattle.rr_referee.specs.Sheets.{AreLawful}
use Rattle.rr_referee.proofs.SheetLemmas.{refused_sheet, words_left, side_shared, is_legal}
use Rattle.rr_referee.proofs.BoundLemmas.{earned_most}
use Rattle.rr_referee.proofs.RevenueLemmas.{legal_earns}
use Rattle.rr_referee.proofs.judge.legal.Goals as goal

pub returns-in_err-journeys-clause-judged : goal.returns-in_err-journeys-clause-judged
returns-in_err-journeys-clause-judged c =
    let p = err_from_is_err_and c.from_residual.result c.from_residual.ensures.1 in
    rw (p.1, p.2) (refused_sheet c.args.net.now c.args.sheet.now _ (rw c.as_slice-words.ensures at c.in_err-journeys.ensures))

pub returns-then-trains-words-clause-judged : goal.returns-then-trains-words-clause-judged
returns-then-trains-words-clause-judged c =
    inr (
      _,
      refl,
      words_left c.args.net.now c.args.sheet.now c.in_ok-journeys.journeys.items (rw c.as_slice-words.ensures at (c.in_ok-journeys.ensures {u = tt}))
          (rw (c.trains.ensures, c.as_slice-words.ensures) at c.if-trains-words.true),
    )

pub returns-then-not-are_apart-clause-judged : goal.returns-then-not-are_apart-clause-judged
returns-then-not-are_apart-clause-judged c =
    inr (
      _,
      refl,
      side_shared c.args.net.now c.args.sheet.now c.in_ok-journeys.journeys.items (rw c.as_slice-words.ensures at (c.in_ok-journeys.ensures {u = tt}))
          (rw (c.trains.ensures, c.as_slice-words.ensures) at c.if-trains-words.false) (rw c.deref.ensures.value at (no c.are_apart.ensures c.if-not-are_apart.true)),
    )

pub revenue_of-requires : goal.revenue_of-requires
revenue_of-requires c =
    let all : AreLawful c.args.net.now c.args.sheet.now (length c.args.net.now.trains) c.in_ok-journeys.journeys.items = rw c.as_slice-words.ensures at (c.in_ok-journeys.ensures {u = tt}) in
    let count = all.complete in
    let few = c.requires.trains in
    let most = earned_most c.args.net.now c.requires.values c.requires.centres c.in_ok-journeys.journeys.items (omega (arith, count, few)) (λ train less. all.lawful train (omega (arith, less, count))) in
    rw c.deref-2.ensures.value (omega (arith, most))

pub returns-clause-judged : goal.returns-clause-judged
returns-clause-judged c =
    is_legal c.args.net.now c.args.sheet.now c.in_ok-journeys.journeys.items (rw c.as_slice-words.ensures at (c.in_ok-journeys.ensures {u = tt})) c.in_ok-revenue.revenue
    (rw (c.trains.ensures, c.as_slice-words.ensures) at c.if-trains-words.false) (rw c.deref.ensures.value at (yes c.are_apart.ensures c.if-not-are_apart.false))
    (rw c.deref-2.ensures.value at (c.in_ok-revenue.ensures {u = tt}))

pub returns-clause-shown : goal.returns-clause-shown
returns-clause-shown c = legal_earns c.args.net.now c.args.sheet.now c.in_ok-revenue.revenue (returns-clause-judged c)

pub returns-clause-bounded : goal.returns-clause-bounded
returns-clause-bounded c =
    let all : AreLawful c.args.net.now c.args.sheet.now (length c.args.net.now.trains) c.in_ok-journeys.journeys.items = rw c.as_slice-words.ensures at (c.in_ok-journeys.ensures {u = tt}) in
    let count = all.complete in
    let few = c.requires.trains in
    let most = earned_most c.args.net.now c.requires.values c.requires.centres c.in_ok-journeys.journeys.items (omega (arith, count, few)) (λ train less. all.lawful train (omega (arith, less, count))) in
    rw (rw c.deref-2.ensures.value at (c.in_ok-revenue.ensures {u = tt})) most
