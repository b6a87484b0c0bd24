-- What a file in memory holds.
use Rattle.rr_disk.specs.Disk.{DiskState}
use Rattle.rr_disk.specs.declared.cached.CachedFile.{CachedFile}

abbrev pub state_of : CachedFile → DiskState
state_of file = record { content = file.content.items; settled = file.settled.items; ranges = file.ranges.items }
