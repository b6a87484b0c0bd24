-- The laws of worlds and their spelling.
use Rattle.std.specs.Prelude.{◌≡◌, ℕ, Option, List, ◌++◌}
use Rattle.rr_reading.specs.Dir.Directory.{FitsVersion, IsDirectory}
use Rattle.rr_reading.specs.Dir.Heads.{Heads}
use Rattle.rr_reading.specs.Dir.Version.{version_number}
use Rattle.rr_reading.specs.declared.dir.version.Version.{Version}
use Rattle.rr_images.specs.Codec.{IsExact}
use Rattle.rr_images.specs.Holding.{HeldChain, heads_of, texts_of, AreSome}
use Rattle.rr_images.specs.Plans.{Draft, LaidChain, kept_of, fresh_chains}
use Rattle.rr_images.specs.Plans.{chains_of as drafted}
use Rattle.rr_reading.specs.Held.{TextChains, chains_of}
use Rattle.rr_reading.specs.Worlds.World.{AreShort, AreShown, Snapshot, World, WorldRules}
use Rattle.rr_reading.specs.Worlds.Spelling.{HoldTexts, Spells, TableChains, all_of, bytes_for, directory_for, drafts_for, table_chains, worlds}

module _ (rules : WorldRules) where
  -- where a line leads to one world, files stand for one
  abbrev pub AreExact : Type 0
  AreExact =
      ((line : List ℕ) (old first second : World) → rules.takes line old first → rules.takes line old second → first ≡ second)
      → IsExact (worlds rules)

  -- the directory that is written of a world and of snapshots in the form of a version, behind chains that hold them,
  -- names those chains and spells the world
  pub record IsReadBack (version : Version) (bank : Option ℕ) (texts : TextChains) (chains : TableChains) (world : World)
      (snapshots : List Snapshot) : Type 0 where
    pub named : Heads (version_number version) (bytes_for version bank texts chains world snapshots) (heads_of (chains_of texts (all_of chains)))
    pub spells : Spells rules (version_number version) (bytes_for version bank texts chains world snapshots) (texts_of (chains_of texts (all_of chains))) world

  abbrev pub WrittenIsRead : Type 0
  WrittenIsRead =
      (version : Version) (bank : Option ℕ) (texts : TextChains) (chains : TableChains) (world : World) (snapshots : List Snapshot)
      → HoldTexts texts chains world snapshots → AreShort world.tables → AreShown rules world snapshots
      → FitsVersion version bank → rules.banks world.roster bank
      → IsDirectory (directory_for bank texts chains world snapshots) → IsReadBack version bank texts chains world snapshots

  -- A directory that names chains and spells a world with them, in a file of the version of this number, is the one that
  -- is written of the world and of snapshots, and the chains hold these: first the tables', and then the snapshots'.
  pub record IsWritten (number : ℕ) (bytes : List ℕ) (texts : TextChains) (others : List HeldChain) (world : World) : Type 0 where
    pub version : Version
    pub numbered : version_number version ≡ number
    pub bank : Option ℕ
    pub said : FitsVersion version bank
    pub banked : rules.banks world.roster bank
    pub chains : TableChains
    pub named : others ≡ all_of chains
    pub snapshots : List Snapshot
    pub held : HoldTexts texts chains world snapshots
    pub short : AreShort world.tables
    pub shown : AreShown rules world snapshots
    pub written : bytes ≡ bytes_for version bank texts chains world snapshots

  abbrev pub ReadIsWritten : Type 0
  ReadIsWritten =
      (number : ℕ) (bytes : List ℕ) (texts : TextChains) (others : List HeldChain) (world : World)
      → Heads number bytes (heads_of (chains_of texts others)) → Spells rules number bytes (texts_of (chains_of texts others)) world
      → IsWritten number bytes texts others world

  -- A checkpoint of a world and of snapshots in the form of a version: its directory names the chains of the texts,
  -- which the present root holds, those that were laid for the tables, and those of the snapshots, of which the present
  -- root holds some, and with them spells the world.
  pub record IsCheckpointOf (version : Version) (texts : TextChains) (laid : List LaidChain) (drafts : List Draft) (world : World)
      (bytes : List ℕ) : Type 0 where
    pub named : Heads (version_number version) bytes (heads_of (drafted (drafts_for texts laid drafts)))
    pub spells : Spells rules (version_number version) bytes (texts_of (drafted (drafts_for texts laid drafts))) world
    pub fresh : fresh_chains (drafts_for texts laid drafts) ≡ laid ++ fresh_chains drafts
    pub kept : (olds : List HeldChain) → AreSome (kept_of drafts) olds → AreSome (kept_of (drafts_for texts laid drafts)) (chains_of texts olds)

  abbrev pub CheckpointsSpell : Type 0
  CheckpointsSpell =
      (version : Version) (bank : Option ℕ) (texts : TextChains) (laid : List LaidChain) (drafts : List Draft) (world : World)
      → (snapshots : List Snapshot) → HoldTexts texts (table_chains laid drafts) world snapshots → AreShort world.tables
      → AreShown rules world snapshots → FitsVersion version bank → rules.banks world.roster bank
      → IsDirectory (directory_for bank texts (table_chains laid drafts) world snapshots)
      → IsCheckpointOf version texts laid drafts world (bytes_for version bank texts (table_chains laid drafts) world snapshots)
