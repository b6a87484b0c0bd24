-- A file has one answer, and that is what images stand for or are refused for.
use Rattle.std.specs.Prelude.{◌≡◌, ◌≢◌, ◌↔◌, ℕ, List, ◌++◌}
use Rattle.rr_reading.specs.Dir.Directory.{Directory}
use Rattle.rr_reading.specs.Dir.Heads.{Heads}
use Rattle.rr_images.specs.Codec.{Codec, Replays}
use Rattle.rr_images.specs.Following.{IsRead}
use Rattle.rr_images.specs.Holding.{HeldChain, texts_of}
use Rattle.rr_images.specs.Layout.{Stands}
use Rattle.rr_images.specs.Refusing.{IsRefused}
use Rattle.rr_pages.specs.declared.journal.reading.RunEnd.TheVariants.{Damaged}
use Rattle.rr_pages.specs.Choosing.{IsNoStore}
use Rattle.rr_pages.specs.declared.fault.Damage.{Damage}
use Rattle.rr_reading.specs.Chains.{FoundChain, AreOfForm}
use Rattle.rr_reading.specs.Held.{Held, TextChains, chains_of, holding_of}
use Rattle.rr_reading.specs.Reading.{IsDirectory, Holds, AreFound, HasBadTable, IsDamage}

abbrev pub OneHeld : Type 0
OneHeld = (file : List ℕ) (first second : Held) → Holds file first → Holds file second → first ≡ second

-- there is one way to find chains
abbrev pub OneFound : Type 0
OneFound = (file : List ℕ) (first second : List FoundChain) → AreFound file first → AreFound file second → first ≡ second

abbrev pub OneDamage : Type 0
OneDamage = (file : List ℕ) (first second : Damage) → IsDamage file first → IsDamage file second → first ≡ second

abbrev pub HeldIsWhole : Type 0
HeldIsWhole = (file : List ℕ) (has : Held) (damage : Damage) → Holds file has → IsDamage file damage → ⊥

abbrev pub StoreIsOne : Type 0
StoreIsOne =
    ((file : List ℕ) (has : Held) → Holds file has → IsNoStore file → ⊥)
    × ((file : List ℕ) (damage : Damage) → IsDamage file damage → IsNoStore file → ⊥)

module _ (codec : Codec) where
  -- a codec whose directories name the chains that a store's directory names
  abbrev pub NamesChains : Type 0
  NamesChains =
      (version : ℕ) (bytes : List ℕ) (heads : List (ℕ × ℕ)) → codec.Heads version bytes heads ↔ Heads version bytes heads

  -- what a file holds is read of its root
  abbrev pub HeldIsRead : Type 0
  HeldIsRead =
      NamesChains → (file : List ℕ) (has : Held) → Holds file has → IsRead codec file has.root (holding_of has) has.reached

  -- where its chains spell a world, no record is damaged, and the records lead on from that world, the file stands
  abbrev pub HeldStands : Type 0
  HeldStands =
      NamesChains → (file : List ℕ) (has : Held) (base world : codec.World) → Holds file has
      → codec.Spells has.root.version has.chain.text (texts_of (chains_of has.texts (has.tables ++ has.snapshots))) base
      → has.near_end ≢ Damaged → has.far_end ≢ Damaged → Replays codec base (has.near ++ has.far) world
      → Stands codec file world

  -- a file with a damage is refused, where its tables' chains are of their form
  abbrev pub DamagedIsRefused : Type 0
  DamagedIsRefused =
      NamesChains → (file : List ℕ) (damage : Damage) → IsDamage file damage → (HasBadTable file → ⊥) → IsRefused codec file

  -- a codec that spells nothing where a table's chain isn't of its form
  abbrev pub SpellsForms : Type 0
  SpellsForms =
      (number : ℕ) (bytes : List ℕ) (directory : Directory) (texts : TextChains) (others : List HeldChain)
      → (world : codec.World) → IsDirectory number bytes directory
      → codec.Spells number bytes (texts_of (chains_of texts others)) world → AreOfForm directory.tables others

  -- then a file with any damage is refused
  abbrev pub AllDamagedAreRefused : Type 0
  AllDamagedAreRefused =
      NamesChains → SpellsForms → (file : List ℕ) (damage : Damage) → IsDamage file damage → IsRefused codec file
