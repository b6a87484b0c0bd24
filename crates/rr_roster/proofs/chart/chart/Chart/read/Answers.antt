use Rattle.std.proofs.Common.{◌≡◌, ◌≤◌, length, map, ap, ◌∙◌, arith}
use Rattle.std.proofs.lemmas.Grind.{common_steps}
use Rattle.std.proofs.lemmas.Result.{err_from_is_err_and}
use Rattle.rr_words.specs.Text.{row_of}
use Rattle.rr_roster.proofs.ChartLemmas.RefusalLemmas.{Spells-read, Spells-unique, refused-not_ascii, refused-without_par, refused-wrong}
use Rattle.rr_roster.proofs.chart.chart.Chart.read.Goals as goal

pub returns-in_default-clause-read : goal.returns-in_default-clause-read
returns-in_default-clause-read c = refused-not_ascii c.args.text.now (rw c.in_default.is at c.in_ok-lines.ensures.rows)

pub returns-in_err-rows-clause-read : goal.returns-in_err-rows-clause-read
returns-in_err-rows-clause-read c =
    let text = rw c.in-Some.is at c.in_ok-lines.ensures.rows in
    let p = err_from_is_err_and c.from_residual-in_err-rows.result c.from_residual-in_err-rows.ensures.1 in
    rw (p.1, p.2) (refused-wrong c.args.text.now (map row_of c.deref.result.now) _ text.0 (ap (map row_of) c.deref.ensures.value ∙ text.1) c.in_err-rows.ensures)

pub returns-then-is_empty-clause-read : goal.returns-then-is_empty-clause-read
returns-then-is_empty-clause-read c =
    let text = rw c.in-Some.is at c.in_ok-lines.ensures.rows in
    let none : length c.in_ok-rows.pars.items ≡ 0 = grind (arith, common_steps) in
    refused-without_par c.args.text.now (map row_of c.deref.result.now) c.in_ok-rows.rows.items c.in_ok-rows.pars.items text.0 (ap (map row_of) c.deref.ensures.value ∙ text.1) c.in_ok-rows.ensures none

pub returns-clause-only : goal.returns-clause-only
returns-clause-only c =
    let text = rw c.in-Some.is at c.in_ok-lines.ensures.rows in
    let some : 1 ≤ length c.in_ok-rows.pars.items = grind (arith, common_steps) in
    λ other second. Spells-unique c.args.text.now c.in_ok-rows.rows.items other (Spells-read c.args.text.now (map row_of c.deref.result.now) c.in_ok-rows.rows.items c.in_ok-rows.pars.items text.0 (ap (map row_of) c.deref.ensures.value ∙ text.1) c.in_ok-rows.ensures some) second
