use Rattle.std.proofs.Common.{sym}
use Rattle.rr_reading.proofs.DirLemmas.SnapshotLemmas.{behind_last}
use Rattle.rr_reading.proofs.dir.reading.comes_behind.Goals as goal

pub returns-in-Some : goal.returns-in-Some
returns-in-Some c = λ rising.
    let both = behind_last c.args.snapshots.now c.in-Some.last.now c.args.snapshot.now (sym c.in-Some.ensures.value) rising in
    (λ yes. both.0 (c.comes_before.ensures.0 yes), λ all. c.comes_before.ensures.1 (both.1 all))
