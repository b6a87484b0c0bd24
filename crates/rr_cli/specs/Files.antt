-- The files that the words name, as clauses see them.
use Rattle.std.specs.Prelude.{◌≡◌, List, [], length}
use Rattle.rr_disk.specs.Disk.{DiskState}
use Rattle.rr_disk.specs.declared.disk.Disk.{Ghosts}
use Rattle.rr_cli.specs.Calls.{PathEvent}
use Rattle.rr_cli.specs.declared.files.HostFiles.{HostFiles}

-- A disk over a file that held so much as it was opened: no call was made on it since, and it is honest if the length that it
-- tells is the length of that.
pub record IsJustOpened {D : Type 0} (seen : Ghosts D) (held : DiskState) (disk : D) : Type 0 where
  pub holds : seen.state disk ≡ held
  pub past : seen.past disk ≡ []
  pub honest : seen.file_len disk ≡ length held.content → seen.Honest disk
  pub works : seen.Works disk
  pub no_fault : seen.fault_count disk ≡ 0
  pub no_write : seen.write_count disk ≡ 0
  pub no_sync : seen.sync_count disk ≡ 0

-- the calls so far, the newest first
abbrev pub calls_of : {R : Type 0} → HostFiles R → List PathEvent
calls_of files = files.record.events
