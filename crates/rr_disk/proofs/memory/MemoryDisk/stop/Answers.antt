use Rattle.std.proofs.Common.{sym, ◌∙◌, ap, subst}
use Rattle.rr_disk.specs.Disk.{DiskState, IsImage}
use Rattle.rr_disk.specs.Memory.{memory_state}
use Rattle.rr_disk.proofs.ChoiceLemmas.{chosen_image}
use Rattle.rr_disk.proofs.memory.MemoryDisk.stop.Goals as goal

pub returns-clause-image : goal.returns-clause-image
returns-clause-image c =
    let disk = c.args.self.now in
    let image = chosen_image (memory_state disk) c.args.choice.kept.now c.args.choice.len disk.file.may_stay disk.file.ranges_within c.requires in
    let content = ap (λ (s : DiskState). s.content) c.in_ok-disk.ensures.fresh.state in
    subst (IsImage (memory_state disk)) (sym (content ∙ c.in_ok-image.ensures.bytes)) image
