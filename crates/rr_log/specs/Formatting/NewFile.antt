-- What a new file holds.
use Rattle.std.specs.Prelude.{◌≡◌, ℕ, ◌+◌, ◌*◌, ◌≤◌, List, [], length, map}
use Rattle.rr_images.specs.Holding.{Holding}
use Rattle.rr_images.specs.Layout.{Spelled}
use Rattle.rr_images.specs.Progress.{AreSpare}
use Rattle.rr_pages.specs.Laying.{AllStand}
use Rattle.rr_pages.specs.Roots.{IsKnownVersion, IsSound}
use Rattle.rr_pages.specs.Writing.{fresh_of}
use Rattle.rr_pages.specs.declared.chain.FreshPage.{FreshPage}
use Rattle.rr_pages.specs.declared.page.TheConstants.{PAGE_BYTES, FIRST_DATA}
use Rattle.rr_pages.specs.declared.root.Root.{Root}
use Rattle.rr_reading.specs.Worlds.Spelling.{worlds}
use Rattle.rr_reading.specs.Worlds.World.{World, WorldRules}
use Rattle.rr_log.specs.Formatting.InTurn.{pages_from}
use Rattle.rr_pages.specs.declared.journal.layout.HalfIndex.TheVariants.{First}

-- these texts, and no table
abbrev pub empty_world : List ℕ → List ℕ → List ℕ → List ℕ → World
empty_world chart roster tiles board =
    record { chart = chart; roster = roster; tiles = tiles; board = board; tables = [] }

abbrev pub page_of : FreshPage → ℕ
page_of fresh = fresh.page

-- the first root of a file: number 1, and the first record, of number 1, goes into the first half
pub record IsFirstRoot (root : Root) : Type 0 where
  pub number : root.number ≡ 1
  pub half : root.half ≡ First
  pub first : root.first ≡ 1
  pub version : IsKnownVersion root.version

-- The pages, of 4,096 bytes each, follow one another from the first data page to the last page of the root, and
-- wherever they stand, they spell the world.
pub record IsNewFile (rules : WorldRules) (root : Root) (fresh : List FreshPage)
    (world : World) : Type 0 where
  pub holding : Holding
  pub first_root : IsFirstRoot root
  pub in_turn : map page_of fresh ≡ pages_from FIRST_DATA (length fresh)
  pub count : root.pages ≡ FIRST_DATA + length fresh
  pub spare : AreSpare [] (map fresh_of fresh)
  pub sound : (file : List ℕ) → PAGE_BYTES * root.pages ≤ length file → IsSound file root
  pub spells : (file : List ℕ) → AllStand file (map fresh_of fresh)
      → Spelled (worlds rules) file root holding world
