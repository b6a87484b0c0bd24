use Rattle.std.proofs.Common.{◌≡◌, ◌∙◌, ◌+◌, ◌<◌, List, ◌++◌, All, OnOk, length, map, take, sym, ap, subst, arith}
use Rattle.std.proofs.lemmas.List.{length-take}
use Rattle.rr_checkpoint.specs.Plan.Transcript.{snapshots_of, tables_of}
use Rattle.rr_game.specs.declared.history.table.Table.{Table}
use Rattle.rr_reading.specs.Worlds.World.{Snapshot}
use Rattle.rr_reading.specs.Worlds.World.{Table as Written}
use Rattle.rr_tables.specs.Lending.{KeepsAt}
use Rattle.rr_tables.specs.Tables.{lent_snapshots}
use Rattle.rr_tables.proofs.LendingLemmas.{boxed_at, in_box, keeps_at, lent_at, lent_below, lent_few, lent_next}
use Rattle.rr_tables.proofs.tables.Tables.lend_table.Goals as goal

pub lend_games-requires-clause-place : goal.lend_games-requires-clause-place
lend_games-requires-clause-place c = omega (arith, c.requires.place, c.args.self.now.few)

pub lend_games-requires-clause-table : goal.lend_games-requires-clause-table
lend_games-requires-clause-table c =
    let place = c.args.place in
    let entries = c.args.self.now.map.entries in
    let boxed = c.in-Some.table.now in
    let there = boxed_at entries place (c.in-Some.field-0-0.now, boxed) (sym c.in-Some.ensures.entry) in
    let kept : KeepsAt (tables_of c.args.transcript.now) place (length boxed.value.kept.commands) =
    subst (λ (tables : List Written). KeepsAt tables place (length boxed.value.kept.commands)) (sym c.requires.tables)
    (keeps_at entries place boxed.value there) in
    subst (λ (table : Table). KeepsAt (tables_of c.args.transcript.now) place (length table.kept.commands)) (sym c.deref.ensures) kept

pub lend_games-requires-clause-before : goal.lend_games-requires-clause-before
lend_games-requires-clause-before c =
    let place = c.args.place in
    let tables = map in_box c.args.self.now.map.entries in
    subst (λ (snapshots : List Snapshot). All (λ (other : Snapshot). other.table < place) snapshots) (sym c.requires.before)
    (lent_below place 0 (take place tables) (omega (arith, length-take place tables)))

pub lend_games-requires-clause-room : goal.lend_games-requires-clause-room
lend_games-requires-clause-room c =
    let tables = map in_box c.args.self.now.map.entries in
    let count = ap (λ (snapshots : List Snapshot). length snapshots) c.requires.before in
    omega (arith, count, lent_few 0 (take c.args.place tables), length-take c.args.place tables)

pub returns-clause-snapshots : goal.returns-clause-snapshots
returns-clause-snapshots c =
    let place = c.args.place in
    let entries = c.args.self.now.map.entries in
    let tables = map in_box entries in
    let boxed = c.in-Some.table.now in
    let there = boxed_at entries place (c.in-Some.field-0-0.now, boxed) (sym c.in-Some.ensures.entry) in
    let more : snapshots_of c.args.transcript.now ++ lent_at place c.deref.result.now ≡ lent_snapshots 0 (take (place + 1) tables) =
    (λ i. c.requires.before i ++ lent_at place (c.deref.ensures i)) ∙ sym (lent_next tables place boxed.value there) in
    subst (λ (snapshots : List Snapshot). OnOk c.lend_games.result (snapshots_of c.lend_games.new.transcript ≡ snapshots)) more c.lend_games.ensures.snapshots
