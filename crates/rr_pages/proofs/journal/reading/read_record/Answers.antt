use Rattle.std.proofs.Common.{◌≡◌, ℕ, ◌+◌, length, subst, rules}
use Rattle.rr_disk.specs.Disk.{IsAt}
use Rattle.rr_pages.specs.Journal.Layout.{gate_place}
use Rattle.rr_pages.proofs.JournalLemmas.Slots.{ends, begins, has_record}
use Rattle.rr_pages.proofs.journal.reading.read_record.Goals as goal

pub returns-in-Err-clause-found : goal.returns-in-Err-clause-found
returns-in-Err-clause-found g c = λ honest.
    let file = (g.D.Disk.state c.args.disk.now).content in
    let is : IsAt file (gate_place c.args.half.index c.args.half.next_slot) c.read_at.new.into = subst (λ (at : ℕ). IsAt file at c.read_at.new.into) c.gate_place-gate.ensures.place (c.in_ok-read_at.ensures.bytes honest) in
    let whole : length c.read_at.new.into ≡ 13 = search rules in
    ends file c.args.half.index c.args.half.next_slot c.args.number c.requires c.read_at.new.into is whole c.in-Err.end c.in-Err.ensures

pub returns-in_ok-bytes-in-Ok-clause-found : goal.returns-in_ok-bytes-in-Ok-clause-found
returns-in_ok-bytes-in-Ok-clause-found g c = λ honest.
    let file = (g.D.Disk.state c.args.disk.now).content in
    let read = c.in_ok-bytes-in-Ok.ensures.honest honest in
    let is : IsAt file (gate_place c.args.half.index c.args.half.next_slot) c.read_at.new.into = subst (λ (at : ℕ). IsAt file at c.read_at.new.into) c.gate_place-gate.ensures.place (c.in_ok-read_at.ensures.bytes read) in
    let whole : length c.read_at.new.into ≡ 13 = search rules in
    let rest : IsAt (g.D.Disk.state c.read_at.new.self).content (gate_place c.args.half.index c.args.half.next_slot + 13) c.in_ok-bytes-in-Ok.bytes.items = subst (λ (at : ℕ). IsAt (g.D.Disk.state c.read_at.new.self).content (at + 13) c.in_ok-bytes-in-Ok.bytes.items) c.gate_place-gate.ensures.place (c.in_ok-bytes-in-Ok.ensures.bytes honest) in
    let here : IsAt file (gate_place c.args.half.index c.args.half.next_slot + 13) c.in_ok-bytes-in-Ok.bytes.items = rw (c.in_ok-read_at.ensures.same_state read) at rest in
    begins file c.args.half.index c.args.half.next_slot c.args.number c.requires c.read_at.new.into is whole c.in-Ok.count c.in_ok-bytes-in-Ok.bytes.items c.in-Ok.ensures c.in_ok-bytes-in-Ok.ensures.count here

pub returns-in_err-bytes-in-Ok-clause-memory : goal.returns-in_err-bytes-in-Ok-clause-memory
returns-in_err-bytes-in-Ok-clause-memory g c = λ wanted honest.
    let file = (g.D.Disk.state c.args.disk.now).content in
    let read = c.in_err-bytes-in-Ok.ensures.honest honest in
    let is : IsAt file (gate_place c.args.half.index c.args.half.next_slot) c.read_at.new.into = subst (λ (at : ℕ). IsAt file at c.read_at.new.into) c.gate_place-gate.ensures.place (c.in_ok-read_at.ensures.bytes read) in
    let whole : length c.read_at.new.into ≡ 13 = search rules in
    has_record file c.args.half.index c.args.half.next_slot c.args.number c.requires c.read_at.new.into is whole c.in-Ok.count c.in-Ok.ensures
