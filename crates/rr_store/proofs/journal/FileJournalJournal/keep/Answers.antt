use Rattle.std.proofs.Common.{◌∙◌, ℕ, List, Ok, refl, sym, subst}
use Rattle.rr_tables.specs.Tables.{lent_by}
use Rattle.rr_store.specs.Keeping.{Keeping}
use Rattle.rr_store.proofs.Keepings.{keeps_again, keeps_nothing}
use Rattle.rr_store.proofs.journal.FileJournalJournal.keep.Goals as goal

pub returns-then-is_broken : goal.returns-then-is_broken
returns-then-is_broken g c = (
  keeps_again g.D.Disk.Honest g.D.Disk.Works g.D.Disk.state g.D.Disk.past g.D.Disk.fault_count g.D.Disk.write_count g.D.Disk.sync_count _ _
      c.args.self.now.file (sym c.is_broken.ensures ∙ c.if-is_broken.true),
  refl,
)

pub returns-in-Err : goal.returns-in-Err
returns-in-Err g c = (
  keeps_nothing g.D.Disk.Honest g.D.Disk.Works g.D.Disk.state g.D.Disk.past g.D.Disk.fault_count g.D.Disk.write_count g.D.Disk.sync_count _ _
      c.args.self.now.file (sym c.is_broken.ensures ∙ c.if-is_broken.false),
  refl,
)

pub returns : goal.returns
returns g c =
    let bytes = c.as_slice.ensures.value ∙ c.in-Ok.ensures.ok in (
      subst (λ (b : List ℕ). Keeping g.D.Disk.Honest g.D.Disk.Works g.D.Disk.state g.D.Disk.past g.D.Disk.fault_count g.D.Disk.write_count g.D.Disk.sync_count c.args.self.now.file (lent_by c.args.tables.now) b (Ok c.in_ok-put_off.put_off) c.keep_record.new.file) bytes
          c.in_ok-put_off.ensures,
      tt,
    )
