-- What a faulty disk is made of.
use Rattle.std.specs.Prelude.{ℕ, Bool}
use Rattle.rr_disk.specs.declared.faulty.FaultyDisk.{FaultyDisk}
use Rattle.rr_disk.specs.declared.plan.Plan.{Plan}

-- the disk beneath
abbrev pub beneath : {D : Type 0} → FaultyDisk D → D
beneath faulty = faulty.disk

-- which calls are still to fail
abbrev pub plan_of : {D : Type 0} → FaultyDisk D → Plan
plan_of faulty = faulty.plan

-- a call failed that was to fail
abbrev pub is_struck : {D : Type 0} → FaultyDisk D → Bool
is_struck faulty = faulty.struck

-- its own counts, of calls that reached the disk beneath and of those that did not
abbrev pub faults_of : {D : Type 0} → FaultyDisk D → ℕ
faults_of faulty = faulty.faults

abbrev pub writes_of : {D : Type 0} → FaultyDisk D → ℕ
writes_of faulty = faulty.writes

abbrev pub syncs_of : {D : Type 0} → FaultyDisk D → ℕ
syncs_of faulty = faulty.syncs
