-- Which snapshots are found where they stand, where both lists rise by table and count.
use Rattle.std.specs.Prelude.{◌≡◌, ◌↔◌, ℕ, List, map, Some, slice_get, AllPairs, Contains}
use Rattle.rr_checkpoint.specs.declared.plan.standing.StandingSnapshot.{StandingSnapshot}
use Rattle.rr_checkpoint.specs.declared.plan.transcript.Transcript.{Transcript}
use Rattle.rr_checkpoint.specs.Plan.Snapshots.{StandsBefore}
use Rattle.rr_checkpoint.specs.Plan.Standing.{kept_snapshots, laid_snapshots, places_of, standing_as}
use Rattle.rr_checkpoint.specs.Plan.Transcript.{snapshots_of}
use Rattle.rr_reading.specs.Worlds.World.{Snapshot}

-- by table, and those of one table by count
abbrev pub Rises : List Snapshot → Type 0
Rises snapshots = AllPairs StandsBefore snapshots

-- as those of each transcript do
abbrev pub TranscriptsRise : Type 0
TranscriptsRise = (transcript : Transcript) → Rises (snapshots_of transcript)

-- each snapshot has the place of the one that is it, if one is, and no other
abbrev pub FindsAll : Type 0
FindsAll =
    (standing : List StandingSnapshot) (snapshots : List Snapshot) → Rises (map standing_as standing) → Rises snapshots
    → (n : ℕ) (there : StandingSnapshot)
    → (slice_get (places_of standing snapshots) n ≡ Some (Some there))
    ↔ (Contains standing there × (slice_get snapshots n ≡ Some (standing_as there)))

-- so just those stay that are among the snapshots
abbrev pub KeepsAll : Type 0
KeepsAll =
    (standing : List StandingSnapshot) (snapshots : List Snapshot) → Rises (map standing_as standing) → Rises snapshots
    → (there : StandingSnapshot)
    → Contains (kept_snapshots standing snapshots) there
    ↔ (Contains standing there × Contains snapshots (standing_as there))

-- and just those are laid that don't stand
abbrev pub LaysTheOthers : Type 0
LaysTheOthers =
    (standing : List StandingSnapshot) (snapshots : List Snapshot) → Rises (map standing_as standing) → Rises snapshots
    → (snapshot : Snapshot)
    → Contains (laid_snapshots standing snapshots) snapshot
    ↔ (Contains snapshots snapshot × (Contains (map standing_as standing) snapshot → ⊥))
