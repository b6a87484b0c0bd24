-- Snapshots that the present root holds, and which of those that a checkpoint writes stay where they stand.
use Rattle.std.specs.Prelude.{◌≡◌, ℕ, ◌==◌, ◌&&◌, ◌||◌, nat_lt, Bool, List, [], ◌∷◌, ◌++◌, Option, None, Some, bytes_eq, if◌then◌else◌, map}
use Rattle.std.specs.Rc.{rc_slice_items}
use Rattle.rr_checkpoint.specs.declared.plan.kit.KitPages.{KitPages}
use Rattle.rr_checkpoint.specs.declared.plan.standing.StandingSnapshot.{StandingSnapshot}
use Rattle.rr_checkpoint.specs.Plan.Kit.{text_pages}
use Rattle.rr_images.specs.Holding.{HeldChain, Holding, pages_of}
use Rattle.rr_reading.specs.Held.{TextChains, chains_of}
use Rattle.rr_reading.specs.Worlds.Spelling.{snapshot_entry}
use Rattle.rr_reading.specs.Worlds.World.{Snapshot}
use Rattle.rr_reading.specs.declared.dir.directory.SnapshotEntry.{SnapshotEntry}

-- the snapshot that stands there
abbrev pub standing_as : StandingSnapshot → Snapshot
standing_as standing = record { table = standing.table; kept = standing.kept; bytes = rc_slice_items standing.bytes }

-- and the chain that holds it
abbrev pub standing_chain : StandingSnapshot → HeldChain
standing_chain standing = record { pages = standing.pages.items; text = rc_slice_items standing.bytes }

abbrev pub standing_chains : List StandingSnapshot → List HeldChain
standing_chains standing = map standing_chain standing

-- what a directory says of it
abbrev pub entry_of : StandingSnapshot → SnapshotEntry
entry_of standing = snapshot_entry (standing_chain standing) (standing_as standing)

-- where a snapshot stands, it is that one
abbrev pub StandsAs : Snapshot → Option StandingSnapshot → Type 0
StandsAs snapshot None = Unit {0}
StandsAs snapshot (Some standing) = standing_as standing ≡ snapshot

-- behind the chains of the texts, and of tables, a root holds those of these snapshots, in this order
pub record StandIn (texts : TextChains) (standing : List StandingSnapshot) (holding : Holding) : Type 0 where
  pub tables : List HeldChain
  pub held : holding.chains ≡ chains_of texts (tables ++ standing_chains standing)

-- one snapshot is of an earlier table than another, or of the same behind fewer commands
abbrev pub comes_before : Snapshot → Snapshot → Bool
comes_before first other = nat_lt first.table other.table || (first.table == other.table && nat_lt first.kept other.kept)

-- it is of the same table behind as many commands, and has the same bytes
abbrev pub is_same : Snapshot → Snapshot → Bool
is_same first other = first.table == other.table && first.kept == other.kept && bytes_eq first.bytes other.bytes

-- of these the ones from the first on that doesn't come before a snapshot
abbrev pub from : Snapshot → List StandingSnapshot → List StandingSnapshot
from snapshot [] = []
from snapshot (first ∷ others) = if comes_before (standing_as first) snapshot then from snapshot others else first ∷ others

-- the first of these, if it is the snapshot
abbrev pub if_same : Snapshot → List StandingSnapshot → Option StandingSnapshot
if_same snapshot [] = None
if_same snapshot (first ∷ others) = if is_same (standing_as first) snapshot then Some first else None

-- where the first of these was taken, the others, and else all
abbrev pub behind : Option StandingSnapshot → List StandingSnapshot → List StandingSnapshot
behind None standing = standing
behind (Some place) [] = []
behind (Some place) (first ∷ others) = others

-- where a snapshot stands, if it does
abbrev pub place_of : List StandingSnapshot → Snapshot → Option StandingSnapshot
place_of standing snapshot = if_same snapshot (from snapshot standing)

-- those that are left for the next snapshots
abbrev pub left_by : List StandingSnapshot → Snapshot → List StandingSnapshot
left_by standing snapshot = behind (place_of standing snapshot) (from snapshot standing)

-- Where each of these snapshots stands, if it does: both lists are gone through side by side, so that each is found where
-- both rise by table and count.
abbrev pub places_of : List StandingSnapshot → List Snapshot → List (Option StandingSnapshot)
places_of standing [] = []
places_of standing (snapshot ∷ snapshots) = place_of standing snapshot ∷ places_of (left_by standing snapshot) snapshots

-- those that are left behind all of them
abbrev pub left_behind : List StandingSnapshot → List Snapshot → List StandingSnapshot
left_behind standing [] = standing
left_behind standing (snapshot ∷ snapshots) = left_behind (left_by standing snapshot) snapshots

-- those that stand
abbrev pub kept_at : List (Option StandingSnapshot) → List StandingSnapshot
kept_at [] = []
kept_at (None ∷ places) = kept_at places
kept_at (Some standing ∷ places) = standing ∷ kept_at places

-- and those that are to be laid
abbrev pub laid_at : List (Option StandingSnapshot) → List Snapshot → List Snapshot
laid_at [] snapshots = []
laid_at (place ∷ places) [] = []
laid_at (None ∷ places) (snapshot ∷ snapshots) = snapshot ∷ laid_at places snapshots
laid_at (Some standing ∷ places) (snapshot ∷ snapshots) = laid_at places snapshots

-- of the snapshots that a checkpoint writes those that stay where they stand, and those that it lays
abbrev pub kept_snapshots : List StandingSnapshot → List Snapshot → List StandingSnapshot
kept_snapshots standing snapshots = kept_at (places_of standing snapshots)

abbrev pub laid_snapshots : List StandingSnapshot → List Snapshot → List Snapshot
laid_snapshots standing snapshots = laid_at (places_of standing snapshots) snapshots

-- the pages of all that stays where it stands: of the texts, and of those snapshots
abbrev pub staying_pages : KitPages → List StandingSnapshot → List Snapshot → List ℕ
staying_pages kit standing snapshots =
    text_pages kit ++ pages_of (standing_chains (kept_snapshots standing snapshots))
