use Rattle.std.proofs.Common.{◌≡◌, ◌∙◌, ℕ, ◌+◌, ◌∷◌, ◌++◌, [], drop, ap, subst, sym}
use Rattle.std.proofs.lemmas.List.{drop_more}
use Rattle.rr_checkpoint.specs.Plan.Transcript.{snapshots_of}
use Rattle.rr_game.specs.declared.game.Game.{Game}
use Rattle.rr_reading.specs.Worlds.World.{Snapshot}
use Rattle.rr_tables.proofs.LendingLemmas.{IsLending, lending_more}
use Rattle.rr_tables.proofs.lending.lend_games.Goals as goal

pub loop-snapshot-preserved : goal.loop-snapshot-preserved
loop-snapshot-preserved c =
    let place = c.args.place in
    let kept = c.len-kept.result in
    let all = c.snapshots-snapshots.result.now in
    let index = c.loop-snapshot.snapshot-index in
    let rest = drop (index + 1) all in
    let first = snapshots_of c.args.transcript.now in
    let now = snapshots_of c.loop-snapshot.transcript in
    let new = snapshots_of c.push_snapshot.new.self in
    let count = c.loop-snapshot.count in
    let game : Game = c.snapshot-item.result in
    let next : drop index all ≡ game ∷ rest =
    drop_more all index game c.loop-snapshot-test.true ∙ ap (λ (g : Game). g ∷ rest) (sym c.snapshot-item.is) in
    let grown = c.in_ok-push_snapshot.ensures.ok ∙ ap (λ (last : Snapshot). now ++ last ∷ []) c.in_ok-write_snapshot.ensures.value in
    let lending =
    lending_more place kept all (drop index all) rest first now new count c.loop-snapshot.last game
    (sym c.can_be_lent.ensures ∙ c.if-not-can_be_lent.false) next grown c.loop-snapshot.invariant.lending in
    record {
      same = c.push_snapshot.ensures.tables ∙ c.loop-snapshot.invariant.same;
      lending = subst (λ (last : ℕ). IsLending place kept all rest first new (count + 1) last) (sym c.played-last.ensures) lending;
    }
