use Rattle.std.proofs.Common.{◌≡◌, ℕ, ◌-◌, length, ◌∙◌, ap, arith}
use Rattle.rr_disk.specs.Disk.{length_after}
use Rattle.rr_disk.proofs.EventLemmas.{knows_failed, knows_written, stays_failed, stays_written, failed_noted}
use Rattle.rr_disk.proofs.file.FileDiskDisk.write_at.Goals as goal

pub invariant_of-self-then-is_err : goal.invariant_of-self-then-is_err
invariant_of-self-then-is_err g c =
    let disk = c.args.self.now in
    let bytes = c.args.bytes.now in
    record {
      len_is = knows_failed g.S.Start.held disk.record.events c.note.new.self.events c.args.at disk.len bytes c.note.ensures disk.len_is;
      may_stay = stays_failed g.S.Start.held disk.record.events c.note.new.self.events c.args.at bytes c.note.ensures disk.may_stay;
    }

pub invariant_of-self-2 : goal.invariant_of-self-2
invariant_of-self-2 g c =
    let disk = c.args.self.now in
    let bytes = c.args.bytes.now in
    let at : c.in-Some.end - length bytes ≡ c.args.at = omega (arith, c.in-Some.ensures) in
    let ends : c.len_behind-self.result ≡ length_after disk.len c.args.at (length bytes) = c.len_behind-self.ensures ∙ ap (λ (k : ℕ). length_after disk.len k (length bytes)) at in
    record {
      len_is = knows_written g.S.Start.held disk.record.events c.note-2.new.self.events c.args.at disk.len bytes c.len_behind-self.result c.note-2.ensures ends disk.len_is;
      may_stay = stays_written g.S.Start.held disk.record.events c.note-2.new.self.events c.args.at bytes c.note-2.ensures disk.may_stay;
    }

pub returns-then-is_err-clause-fails : goal.returns-then-is_err-clause-fails
returns-then-is_err-clause-fails g c = λ honest.
    failed_noted g.S.Start.held c.args.self.now.record.events c.fails-then-is_err.new.self.record.events c.args.at c.args.bytes.now (c.fails-then-is_err.ensures.events ∙ c.note.ensures)
