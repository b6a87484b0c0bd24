use Rattle.std.proofs.Common.{ℕ, Vec, subst, arith}
use Rattle.std.specs.declared.alloc.Global.{Global}
use Rattle.std.proofs.lemmas.List.{length-map}
use Rattle.std.proofs.lemmas.Result.{err_from_is_err_and}
use Rattle.rr_pages.specs.Journal.Reading.{lines}
use Rattle.rr_kit.specs.declared.kit.Kit.{Kit}
use Rattle.rr_tables.specs.Tables.{world_of}
use Rattle.rr_store.specs.Replayed.{PlaysRecords}
use Rattle.rr_store.proofs.RecoveryLemmas.PlaysLemmas.{few_records, records_join}
use Rattle.rr_store.proofs.RecoveryLemmas.ReplayLemmas.{both_replayed, far_stops, near_stops}
use Rattle.rr_store.proofs.recovery.records.replay_halves.Goals as goal

pub returns-in_err-near_plays-clause-refused : goal.returns-in_err-near_plays-clause-refused
returns-in_err-near_plays-clause-refused c =
    let p = err_from_is_err_and c.from_residual.result c.from_residual.ensures.1 in
    rw (p.1, p.2) (near_stops c.args.tables.now.kit (world_of c.args.tables.now) (lines c.args.near.now) (lines c.args.far.now) _ c.in_err-near_plays.ensures.refused)

pub returns-in_err-far_plays-clause-refused : goal.returns-in_err-far_plays-clause-refused
returns-in_err-far_plays-clause-refused c =
    let p = err_from_is_err_and c.from_residual-in_err-far_plays.result c.from_residual-in_err-far_plays.ensures.1 in
    rw (p.1, p.2)
    (far_stops c.args.tables.now.kit c.replay.new.tables.kit (world_of c.args.tables.now) (world_of c.replay.new.tables) (lines c.args.near.now) (lines c.args.far.now) _
    c.replay.ensures.kit c.replay.ensures.played c.in_ok-near_plays.ensures.replayed c.in_err-far_plays.ensures.refused)

pub returns-clause-replayed : goal.returns-clause-replayed
returns-clause-replayed c = λ played.
    both_replayed c.args.tables.now.kit c.args.tables.now c.replay.new.tables (world_of c.replay-2.new.tables) (lines c.args.near.now) (lines c.args.far.now) _ c.replay.ensures.kit
    (c.replay.ensures.played played) (c.replay.ensures.snapshots played) (c.in_ok-near_plays.ensures.replayed played) (c.in_ok-far_plays.ensures.replayed (c.replay.ensures.played played)) c.in_ok-base.ensures.base

pub returns-clause-plays : goal.returns-clause-plays
returns-clause-plays c = λ played had few_near few_far.
    let kit = c.args.tables.now.kit in
    let near = lines c.args.near.now in
    let far = lines c.args.far.now in
    let middle = world_of c.replay.new.tables in
    let end = world_of c.replay-2.new.tables in
    let first = c.in_ok-near_plays.ensures.plays played had few_near in
    let second = subst (λ (k : Kit). PlaysRecords k middle far end c.in_ok-far_plays.far_plays) c.replay.ensures.kit
    (c.in_ok-far_plays.ensures.plays (c.replay.ensures.played played) (c.replay.ensures.snapshots played had) few_far) in
    let bytes_of = λ (v : Vec ℕ Global). v.items in
    records_join kit (world_of c.args.tables.now) near middle far end c.in_ok-near_plays.near_plays c.in_ok-far_plays.far_plays c.saturating_add.result
    (omega (arith, c.saturating_add.ensures, few_records kit _ near middle _ first, few_records kit middle far end _ second, length-map c.args.near.now bytes_of, length-map c.args.far.now bytes_of, few_near, few_far))
    first second

pub returns-clause-played : goal.returns-clause-played
returns-clause-played c = λ played. c.replay-2.ensures.played (c.replay.ensures.played played)
