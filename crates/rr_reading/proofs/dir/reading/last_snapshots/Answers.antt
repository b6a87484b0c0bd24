use Rattle.std.proofs.Common.{◌≡◌, ◌≢◌, [], true, sym, ◌∙◌}
use Rattle.std.specs.List.{flat_map}
use Rattle.std.proofs.lemmas.List.{append-nil}
use Rattle.std.proofs.lemmas.Result.{err_from_is_err_and}
use Rattle.rr_reading.specs.Dir.Directory.{spelled_snapshot}
use Rattle.rr_reading.proofs.DirLemmas.SnapshotLemmas.{counted_snapshots, snapshots_end}
use Rattle.rr_reading.proofs.dir.reading.last_snapshots.Goals as goal

pub returns-in_err-snapshots-clause-damaged : goal.returns-in_err-snapshots-clause-damaged
returns-in_err-snapshots-clause-damaged c = λ e all are same.
    let given = err_from_is_err_and c.from_residual.result c.from_residual.ensures.1 in
    let is = given.1 in
    let from = given.2 in
    let some : c.args.cursor.now ≢ [] = λ none. (let empty : c.is_empty.result ≡ true = c.is_empty.ensures.1 none in absurd (cc)) in
    let read = c.in-Some.ensures in
    let mid = counted_snapshots c.args.cursor.now c.in-Some.number c.next_snapshot_count.new.cursor all some read.1 read.2 are.few same in
    c.in_err-snapshots.ensures.damaged (cc) all [] mid.0 are.each are.rising (mid.1 ∙ sym (append-nil (flat_map spelled_snapshot all)))

pub returns-then-not-is_empty-clause-damaged : goal.returns-then-not-is_empty-clause-damaged
returns-then-not-is_empty-clause-damaged c = λ e all are same.
    let some : c.args.cursor.now ≢ [] = λ none. (let empty : c.is_empty.result ≡ true = c.is_empty.ensures.1 none in absurd (cc)) in
    let read = c.in-Some.ensures in
    let mid = counted_snapshots c.args.cursor.now c.in-Some.number c.next_snapshot_count.new.cursor all some read.1 read.2 are.few same in
    let found = c.in_ok-snapshots.ensures.found in
    let end = snapshots_end c.args.tables.now c.requires c.in_ok-snapshots.snapshots.items all c.next_snapshots.new.cursor found.1 are.each (found.0 ∙ sym mid.0) (sym found.3 ∙ mid.1) in
    let empty : c.is_empty-2.result ≡ true = c.is_empty-2.ensures.1 end in
    absurd (cc)
