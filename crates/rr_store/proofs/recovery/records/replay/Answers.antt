use Rattle.std.proofs.Common.{◌∙◌, ◌<◌, ℕ, Vec, length, take, ap, arith}
use Rattle.std.proofs.lemmas.List.{length-map, length-take-le}
use Rattle.std.proofs.lemmas.Result.{err_from_is_err_and}
use Rattle.std.specs.declared.alloc.Global.{Global}
use Rattle.rr_store.proofs.RecoveryLemmas.PlaysLemmas.{few_record, few_records, plays_more}
use Rattle.rr_store.proofs.RecoveryLemmas.ReplayLemmas.{replays_end, replays_more}
use Rattle.rr_store.proofs.recovery.records.replay.Goals as goal

pub returns-in_err-played-clause-refused : goal.returns-in_err-played-clause-refused
returns-in_err-played-clause-refused c =
    let p = err_from_is_err_and c.from_residual.result c.from_residual.ensures.1 in
    let within : c.loop-bytes.bytes-index < length c.args.records.now = omega arith in
    let bytes_of = λ (v : Vec ℕ Global). v.items in
    rw (p.1, p.2)
    (replays_end bytes_of c.args.records.now c.loop-bytes.bytes-index c.bytes-item.result within _ _ _ _ c.deref.result.now _
    (c.deref.ensures.value ∙ ap bytes_of c.bytes-item.is) c.loop-bytes.invariant.kit c.loop-bytes.invariant.played c.loop-bytes.invariant.so_far c.in_err-played.ensures.refused)

pub loop-bytes-preserved : goal.loop-bytes-preserved
loop-bytes-preserved c =
    let within : c.loop-bytes.bytes-index < length c.args.records.now = omega arith in
    let bytes_of = λ (v : Vec ℕ Global). v.items in
    record {
      so_far = λ played. replays_more bytes_of c.args.records.now c.loop-bytes.bytes-index c.bytes-item.result within _ _ _ _ _ c.deref.result.now
          (c.deref.ensures.value ∙ ap bytes_of c.bytes-item.is) c.loop-bytes.invariant.kit (c.loop-bytes.invariant.so_far played) (c.in_ok-played.ensures.taken (c.loop-bytes.invariant.played played));
      plays = λ played had few.
          let before = c.loop-bytes.invariant.plays played had few in
          let here = c.in_ok-played.ensures.plays (c.loop-bytes.invariant.played played) (c.loop-bytes.invariant.snapshots played had) in
          let front = few_records c.args.tables.now.kit _ _ _ c.loop-bytes.plays before in
          let long = length-map (take c.loop-bytes.bytes-index c.args.records.now) bytes_of in
          let short = length-take-le c.loop-bytes.bytes-index c.args.records.now (omega (arith, within)) in
          let one = few_record c.loop-bytes.tables.kit _ _ _ c.in_ok-played.played here in
          plays_more c.args.tables.now.kit bytes_of c.args.records.now c.loop-bytes.bytes-index c.bytes-item.result within c.loop-bytes.tables.kit c.loop-bytes.invariant.kit _ _ _ c.deref.result.now
          (c.deref.ensures.value ∙ ap bytes_of c.bytes-item.is) c.loop-bytes.plays c.in_ok-played.played c.saturating_add-plays.result
          (omega (arith, c.saturating_add-plays.ensures, front, long, short, one, few, within)) before here;
      kit = c.replay_record.ensures.kit ∙ c.loop-bytes.invariant.kit;
      played = λ played. c.replay_record.ensures.played (c.loop-bytes.invariant.played played);
      snapshots = λ played had. c.replay_record.ensures.snapshots (c.loop-bytes.invariant.played played) (c.loop-bytes.invariant.snapshots played had);
    }
