use Rattle.std.proofs.Common.{◌∙◌, bytes_eq, rules}
use Rattle.indexmap.specs.IndexMap.{get}
use Rattle.rr_tables.specs.Records.World.{state_after, world_after}
use Rattle.rr_tables.specs.Taking.{plays_of}
use Rattle.rr_tables.proofs.PlayedTables.{counted_at}
use Rattle.rr_tables.proofs.tables.Tables.step.Goals as goal

pub returns-in_err-keep-clause-kept : goal.returns-in_err-keep-clause-kept
returns-in_err-keep-clause-kept g c = rw (← c.prepare.ensures.same.lent) (search rules)

pub returns-clause-kept : goal.returns-clause-kept
returns-clause-kept g c = rw (← c.prepare.ensures.same.lent) c.in_ok-keep.ensures

pub returns-clause-world : goal.returns-clause-world
returns-clause-world g c = λ all.
    let same = c.prepare.ensures.same in
    c.change-stamp.ensures.world c.args.request.now c.in_ok-change.ensures.change (same.played all)
    ∙ (λ i. world_after (same.kit i) (same.world i) c.args.name.now c.args.request.now)

pub returns-clause-stamp : goal.returns-clause-stamp
returns-clause-stamp g c =
    let same = c.prepare.ensures.same in
    c.change-stamp.ensures.stamp c.args.request.now c.in_ok-change.ensures.change ∙ (λ i. (state_after (same.kit i) (same.table i) c.args.request.now).stamp)

pub returns-clause-played : goal.returns-clause-played
returns-clause-played g c = λ all. c.change-stamp.ensures.played c.args.request.now c.in_ok-change.ensures.change (c.prepare.ensures.same.played all)

pub returns-clause-snapshots : goal.returns-clause-snapshots
returns-clause-snapshots g c = λ all shown.
    let same = c.prepare.ensures.same in
    c.change-stamp.ensures.snapshots c.args.request.now c.in_ok-change.ensures.change (same.played all) (same.snapshots shown)

pub returns-clause-kit : goal.returns-clause-kit
returns-clause-kit g c = c.change-stamp.ensures.kit ∙ c.prepare.ensures.same.kit

pub returns-clause-plays : goal.returns-clause-plays
returns-clause-plays g c = λ all shown.
    let same = c.prepare.ensures.same in
    let name = c.args.name.now in
    let tables = c.prepare.new.self in
    rw c.plays-plays.ensures
    (counted_at tables.kit (get bytes_eq tables.map name) c.args.request.now c.in_ok-change.change c.in_ok-change.ensures.change (same.played all name) (same.snapshots shown name)
    ∙ (λ i. plays_of (same.kit i) (same.table i) c.args.request.now))
