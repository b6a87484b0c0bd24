use Rattle.std.proofs.Common.{◌≡◌, [], ◌∷◌, ◌++◌, length, ◌∙◌, ap, rules, arith}
use Rattle.std.proofs.lemmas.List.{take_all}
use Rattle.rr_disk.specs.Disk.{after_write}
use Rattle.rr_disk.specs.Replay.{length_of, replayed, settled_state}
use Rattle.rr_disk.specs.declared.call.Call.TheVariants.{Write}
use Rattle.rr_disk.proofs.ReplayLemmas.{length_of-push, replayed-push, passed-push}
use Rattle.rr_disk.proofs.call_log.CallLog.add_write.Goals as goal

pub invariant_of-self-clause-whole : goal.invariant_of-self-clause-whole
invariant_of-self-clause-whole c =
    let log = c.args.self.now in
    let calls : c.push.new.self.items ≡ log.calls.items ++ Write c.args.at (length c.args.bytes.now) ∷ [] = search rules in
    rw calls (rw length_of-push (search (rules, log.whole)))

pub returns-clause-now : goal.returns-clause-now
returns-clause-now c =
    let log = c.args.self.now in
    let calls : c.push.new.self.items ≡ log.calls.items ++ Write c.args.at (length c.args.bytes.now) ∷ [] = search rules in
    let bytes : c.extend_from_slice.new.self.items ≡ log.bytes.items ++ c.args.bytes.now = search rules in
    let whole : length log.bytes.items ≡ length_of log.calls.items = search rules in
    rw (calls, bytes) (replayed-push (settled_state log.base.items) log.calls.items (Write c.args.at (length c.args.bytes.now)) log.bytes.items c.args.bytes.now whole
    ∙ ap (after_write (replayed (settled_state log.base.items) log.calls.items log.bytes.items) c.args.at) (take_all (length c.args.bytes.now) c.args.bytes.now (omega arith)))

pub returns-clause-past : goal.returns-clause-past
returns-clause-past c =
    let log = c.args.self.now in
    let calls : c.push.new.self.items ≡ log.calls.items ++ Write c.args.at (length c.args.bytes.now) ∷ [] = search rules in
    let bytes : c.extend_from_slice.new.self.items ≡ log.bytes.items ++ c.args.bytes.now = search rules in
    let whole : length log.bytes.items ≡ length_of log.calls.items = search rules in
    rw (calls, bytes) (passed-push [] (settled_state log.base.items) log.calls.items (Write c.args.at (length c.args.bytes.now)) log.bytes.items c.args.bytes.now whole)
