use Rattle.std.proofs.Common.{length}
use Rattle.std.proofs.lemmas.List.Elements.{recursion_from_All}
use Rattle.rr_disk.specs.Range.{IsWithin}
use Rattle.rr_disk.specs.Memory.{memory_state}
use Rattle.rr_disk.proofs.memory.MemoryDisk.image.Goals as goal

pub lay_all-requires-clause-within : goal.lay_all-requires-clause-within
lay_all-requires-clause-within c =
    rw c.content-content.ensures (recursion_from_All (IsWithin (length (memory_state c.args.self.now).content)) c.ranges-2.result.now c.ranges-2.ensures.within)
