use Rattle.std.proofs.Common.{◌≡◌, ◌↔◌, ◌∷◌, ◌++◌, ◌+◌, [], Bool, List, IsTrue, sym, subst, true}
use Rattle.std.specs.List.{All, AllPairs}
use Rattle.rr_reading.specs.declared.dir.directory.SnapshotEntry.{SnapshotEntry}
use Rattle.rr_reading.specs.Dir.Directory.{ComesBefore}
use Rattle.rr_reading.proofs.DirLemmas.SnapshotLemmas.{ReadsSnapshots, snapshots_damaged, snapshots_fallen, snapshots_more}
use Rattle.rr_reading.proofs.dir.reading.next_snapshots.Goals as goal

-- whether it comes behind those that were read
behind_these : (given items : List SnapshotEntry) (behind : Bool) (snapshot : SnapshotEntry) → given ≡ items → (AllPairs ComesBefore given → (IsTrue behind ↔ All (λ (other : SnapshotEntry). ComesBefore other snapshot) given)) → AllPairs ComesBefore items
    → IsTrue behind ↔ All (λ (other : SnapshotEntry). ComesBefore other snapshot) items
behind_these given items behind snapshot same says rising =
    subst (λ (xs : List SnapshotEntry). IsTrue behind ↔ All (λ (other : SnapshotEntry). ComesBefore other snapshot) xs) same (says (subst (AllPairs ComesBefore) (sym same) rising))

pub returns-in_default-clause-damaged : goal.returns-in_default-clause-damaged
returns-in_default-clause-damaged c = λ e all r counted each rising same.
    snapshots_damaged c.args.tables.now c.requires c.args.cursor.now c.loop.snapshots.items c.loop.counter c.args.number c.loop.cursor c.loop.invariant c.loop-test.true all r counted each rising same c.in_default.ensures

pub returns-then-not-comes_behind-clause-damaged : goal.returns-then-not-comes_behind-clause-damaged
returns-then-not-comes_behind-clause-damaged c = λ e all r counted each rising same.
    let read = c.in-Some.ensures in
    let both = behind_these c.deref.result.now c.loop.snapshots.items c.comes_behind.result c.in-Some.snapshot c.deref.ensures.value c.comes_behind.ensures c.loop.invariant.rising in
    snapshots_fallen c.args.tables.now c.requires c.args.cursor.now c.loop.snapshots.items c.loop.counter c.args.number c.loop.cursor c.loop.invariant c.loop-test.true all r counted each rising same
    c.in-Some.snapshot c.next_snapshot.new.cursor read.0 read.1 (λ behind. let is : c.comes_behind.result ≡ true = both.1 behind in absurd (cc))

pub loop-preserved : goal.loop-preserved
loop-preserved c =
    let read = c.in-Some.ensures in
    let snapshot = c.in-Some.snapshot in
    let both = behind_these c.deref.result.now c.loop.snapshots.items c.comes_behind.result snapshot c.deref.ensures.value c.comes_behind.ensures c.loop.invariant.rising in
    let yes : c.comes_behind.result ≡ true = cc in
    let more : ReadsSnapshots c.args.tables.now c.args.cursor.now (c.loop.snapshots.items ++ snapshot ∷ []) (c.loop.counter + 1) c.next_snapshot.new.cursor =
    snapshots_more c.args.tables.now c.args.cursor.now c.loop.snapshots.items c.loop.counter c.loop.cursor snapshot c.next_snapshot.new.cursor c.loop.invariant read.0 read.1 (both.0 yes) in
    rw c.in_ok-push.ensures.items more
