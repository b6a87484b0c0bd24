-- The chains that a directory names.
use Rattle.std.specs.Prelude.{◌≡◌, ℕ, List, ◌∷◌, ◌++◌, map}
use Rattle.rr_reading.specs.declared.dir.directory.ChainRef.{ChainRef}
use Rattle.rr_reading.specs.declared.dir.directory.SnapshotEntry.{SnapshotEntry}
use Rattle.rr_reading.specs.declared.dir.directory.TableEntry.{TableEntry}
use Rattle.rr_reading.specs.declared.dir.version.Version.{Version}
use Rattle.rr_reading.specs.Dir.Directory.{Directory, Spells}
use Rattle.rr_reading.specs.Dir.Version.{version_number}

-- a chain's first page and how many bytes it holds
abbrev pub head_of : ChainRef → ℕ × ℕ
head_of chain = (chain.head, chain.length)

-- of each table's, and then of each snapshot's
abbrev pub heads_of_tables : List TableEntry → List SnapshotEntry → List (ℕ × ℕ)
heads_of_tables tables snapshots =
    map (λ (table : TableEntry). head_of table.chain) tables
    ++ map (λ (snapshot : SnapshotEntry). head_of snapshot.chain) snapshots

-- of the kit's four chains, and then of those
abbrev pub heads_of : Directory → List (ℕ × ℕ)
heads_of directory =
    head_of directory.kit.chart ∷ head_of directory.kit.roster ∷ head_of directory.kit.tiles ∷ head_of directory.kit.board
    ∷ heads_of_tables directory.tables directory.snapshots

-- these bytes, in a file of this version, are a directory that names these chains
pub record Heads (number : ℕ) (bytes : List ℕ) (heads : List (ℕ × ℕ)) : Type 0 where
  pub version : Version
  pub numbered : version_number version ≡ number
  pub directory : Directory
  pub spelled : Spells version bytes directory
  pub named : heads ≡ heads_of directory
