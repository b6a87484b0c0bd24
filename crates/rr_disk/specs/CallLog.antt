-- What a log of calls stands for.
use Rattle.std.specs.Prelude.{ℕ, ◌+◌, ◌*◌, List, [], vec_len}
use Rattle.rr_disk.specs.Disk.{DiskState}
use Rattle.rr_disk.specs.Replay.{replayed, passed, settled_state}
use Rattle.rr_disk.specs.declared.call_log.CallLog.{CallLog}

-- the state after all that is written down
abbrev pub now_of : CallLog → DiskState
now_of log = replayed (settled_state log.base.items) log.calls.items log.bytes.items

-- the states passed through, newest first
abbrev pub past_of : CallLog → List DiskState
past_of log = passed [] (settled_state log.base.items) log.calls.items log.bytes.items

-- how much room it takes
abbrev pub used_of : CallLog → ℕ
used_of log = vec_len log.bytes + 16 * vec_len log.calls
