use Rattle.std.proofs.Common.{◌≡◌, [], ◌∷◌, ◌++◌, length, sym, ◌∙◌, ap, rules}
use Rattle.std.proofs.lemmas.List.{append-nil}
use Rattle.rr_disk.specs.Replay.{length_of, replayed, passed, settled_state}
use Rattle.rr_disk.specs.declared.call.Call.TheVariants.{Sync}
use Rattle.rr_disk.proofs.ReplayLemmas.{length_of-push, replayed-push, passed-push}
use Rattle.rr_disk.proofs.call_log.CallLog.add_sync.Goals as goal

pub invariant_of-self-clause-whole : goal.invariant_of-self-clause-whole
invariant_of-self-clause-whole c =
    let log = c.args.self.now in
    let calls : c.push.new.self.items ≡ log.calls.items ++ Sync ∷ [] = search rules in
    rw calls (rw length_of-push (search (rules, log.whole)))

pub returns-clause-now : goal.returns-clause-now
returns-clause-now c =
    let log = c.args.self.now in
    let calls : c.push.new.self.items ≡ log.calls.items ++ Sync ∷ [] = search rules in
    let whole : length log.bytes.items ≡ length_of log.calls.items = search rules in
    rw calls (ap (replayed (settled_state log.base.items) (log.calls.items ++ Sync ∷ [])) (sym (append-nil log.bytes.items))
    ∙ replayed-push (settled_state log.base.items) log.calls.items Sync log.bytes.items [] whole)

pub returns-clause-past : goal.returns-clause-past
returns-clause-past c =
    let log = c.args.self.now in
    let calls : c.push.new.self.items ≡ log.calls.items ++ Sync ∷ [] = search rules in
    let whole : length log.bytes.items ≡ length_of log.calls.items = search rules in
    rw calls (ap (passed [] (settled_state log.base.items) (log.calls.items ++ Sync ∷ [])) (sym (append-nil log.bytes.items))
    ∙ passed-push [] (settled_state log.base.items) log.calls.items Sync log.bytes.items [] whole)
