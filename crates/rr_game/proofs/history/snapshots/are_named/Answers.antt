use Rattle.std.proofs.Common.{◌≡◌, true, rules}
use Rattle.rr_game.proofs.HistoryLemmas.Counted.{next_is, next_named, next_within, none_yet, passed_over}
use Rattle.rr_game.proofs.history.snapshots.are_named.Goals as goal

pub loop-place-init : goal.loop-place-init
loop-place-init c = record { within = search rules; counts = none_yet c.args.least }

pub loop-place-preserved-then-not-is_named : goal.loop-place-preserved-then-not-is_named
loop-place-preserved-then-not-is_named c = record {
  within = c.loop-place.invariant.within;
  counts = passed_over c.args.least c.loop-place.place _ c.loop-place.invariant.counts (cc);
}

pub returns-then-not-is_at : goal.returns-then-not-is_at
returns-then-not-is_at c = (
  (λ h. absurd (cc)),
  (λ all.
      let at = next_is c.args.snapshots.now c.args.least c.loop-place.next c.loop-place.place c.args.count c.loop-place.invariant.within c.loop-place-test.true (cc)
      c.loop-place.invariant.counts all in
      let is : c.is_at.result ≡ true = c.is_at.ensures.1 at in
      cc),
)

pub loop-place-preserved : goal.loop-place-preserved
loop-place-preserved c =
    let is = c.is_at.ensures.0 (search rules) in
    record {
      within = next_within c.args.snapshots.now c.loop-place.next _ is;
      counts = next_named c.args.snapshots.now c.args.least c.loop-place.next c.loop-place.place (cc) is c.loop-place.invariant.counts;
    }
