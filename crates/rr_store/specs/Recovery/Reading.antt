-- What a call leaves as it was that reads the commands of chains.
use Rattle.std.specs.Prelude.{◌≡◌, ◌*◌, ◌<◌, Result, Err}
use Rattle.rr_disk.specs.declared.disk.Disk.{Ghosts}
use Rattle.rr_pages.specs.declared.page.TheConstants.{PAGE_BYTES}
use Rattle.rr_reading.specs.declared.lending.commands.Commands.{Commands}
use Rattle.rr_reading.specs.Lending.Chains.{all_of, count_of}
use Rattle.rr_store.specs.declared.recovery.fault.Fault.{Fault}
use Rattle.rr_store.specs.Recovery.Fault.{CountsFault, OnDeviceFault}

-- It writes and syncs nothing, and the chains stay. A fault of the disk is told exactly where the disk counted one more;
-- a device that works fails no read but where the file ends before the pages that the chains count.
pub record OnlyReads {D T : Type 0} (seen : Ghosts D) (old new : D) (lent later : Commands) (result : Result T Fault) : Type 0 where
  pub all : all_of later.chains ≡ all_of lent.chains
  pub pages : count_of later.chains ≡ count_of lent.chains
  pub fault : CountsFault (seen.fault_count old) (seen.fault_count new) result
  pub honest : seen.Honest new → seen.Honest old
  pub same_state : seen.Honest new → seen.state new ≡ seen.state old
  pub same_past : seen.Honest new → seen.past new ≡ seen.past old
  pub writes : seen.write_count new ≡ seen.write_count old
  pub syncs : seen.sync_count new ≡ seen.sync_count old
  pub device : OnDeviceFault result (seen.Works new → seen.file_len old < PAGE_BYTES * count_of lent.chains)
  pub works : seen.Works new → seen.Works old
  pub same_len : seen.file_len new ≡ seen.file_len old

-- the same of a fault alone
abbrev pub OnlyReadsTold : {D : Type 0} → Ghosts D → D → D → Commands → Commands → Fault → Type 0
OnlyReadsTold seen old new lent later fault = OnlyReads {T = Unit {0}} seen old new lent later (Err fault)
