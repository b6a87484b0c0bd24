use Rattle.std.proofs.Common.{is_ok}
use Rattle.rr_checkpoint.proofs.PlanLemmas.TranscriptLemmas.{one_counted, one_behind, one_within}
use Rattle.rr_checkpoint.proofs.plan.transcript.Transcript.push_snapshot.Goals as goal

pub invariant_of-self : goal.invariant_of-self
invariant_of-self c =
    let transcript = c.args.self.now in
    let old = transcript.snapshots.items in
    let new = c.push.new.self.items in
    let ok = is_ok c.push.result in
    record {
      some_kept = transcript.some_kept;
      own_names = transcript.own_names;
      few = transcript.few;
      counted = one_counted ok transcript.tables.items old new c.args.snapshot c.push.ensures.items transcript.counted c.requires.of_table;
      rising = one_behind ok old new c.args.snapshot c.push.ensures.items transcript.rising c.requires.behind;
      few_snapshots = one_within ok old new c.args.snapshot c.push.ensures.items c.requires.room;
    }
