use Rattle.std.proofs.Common.{None, Some, sym, subst}
use Rattle.std.proofs.lemmas.Result.{err_from_is_err_and}
use Rattle.rr_game.specs.History.Tables.{IsPlayed}
use Rattle.rr_kit.specs.declared.kit.Kit.{Kit}
use Rattle.rr_store.specs.Holding.{held_of}
use Rattle.rr_store.specs.World.{table_named}
use Rattle.rr_moderator.proofs.BestLemmas.{at_table, no_table}
use Rattle.rr_moderator.proofs.searching.runs_at.Goals as goal

pub returns-in-Err : goal.returns-in-Err
returns-in-Err g c = λ played. no_table (held_of c.args.store.now) c.args.name.now c.args.stamp c.args.corp _ c.requires c.in-Err.ensures.found

pub returns-in_err-judge_run : goal.returns-in_err-judge_run
returns-in_err-judge_run g c =
    let p = err_from_is_err_and c.from_residual.result c.from_residual.ensures.1 in
    let held = held_of c.args.store.now in
    rw (p.1, p.2)
    (λ played.
    let here = subst (λ (k : Kit). IsPlayed k c.in-Ok.table.now) (sym c.kit.ensures) (c.in-Ok.ensures.played played) in
    at_table c.kit.result.now held.kit (table_named held.tables c.args.name.now) _ c.args.stamp c.args.corp (Some _) c.kit.ensures c.in-Ok.ensures.found.1 (c.in_err-judge_run.ensures here))

pub returns : goal.returns
returns g c = λ played.
    let held = held_of c.args.store.now in
    let there = c.in-Ok.ensures.found.1 in
    let is_played = c.in-Ok.ensures.played played in
    let here = subst (λ (k : Kit). IsPlayed k c.in-Ok.table.now) (sym c.kit.ensures) is_played in
    (there, is_played, at_table c.kit.result.now held.kit (table_named held.tables c.args.name.now) _ c.args.stamp c.args.corp None c.kit.ensures there (c.in_ok-judge_run.ensures here))
