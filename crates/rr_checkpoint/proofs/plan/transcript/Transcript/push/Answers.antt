use Rattle.std.proofs.Common.{is_ok, map}
use Rattle.rr_checkpoint.proofs.PlanLemmas.TranscriptLemmas.{some_pushed, names_pushed, few_pushed, counted_pushed}
use Rattle.rr_checkpoint.specs.Plan.Snapshots.{snapshot_of}
use Rattle.rr_checkpoint.proofs.plan.transcript.Transcript.push.Goals as goal

pub invariant_of-self : goal.invariant_of-self
invariant_of-self c =
    let old = c.args.self.now.tables.items in
    let new = c.push.new.self.items in
    record {
      some_kept = some_pushed (is_ok c.push.result) old new c.args.table c.push.ensures.items c.args.self.now.some_kept c.requires.some;
      own_names = names_pushed (is_ok c.push.result) old new c.args.table c.push.ensures.items c.args.self.now.own_names c.requires.own_name;
      few = few_pushed (is_ok c.push.result) old new c.args.table c.push.ensures.items c.requires.room;
      counted = counted_pushed (is_ok c.push.result) old new c.args.table (map snapshot_of c.args.self.now.snapshots.items) c.push.ensures.items c.args.self.now.counted;
      rising = c.args.self.now.rising;
      few_snapshots = c.args.self.now.few_snapshots;
    }
