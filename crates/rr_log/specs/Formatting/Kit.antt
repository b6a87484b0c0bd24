-- The chains of a kit's texts as they are laid.
use Rattle.std.specs.Prelude.{◌≡◌, Bool, ℕ, List, [], ◌∷◌}
use Rattle.rr_reading.specs.declared.dir.directory.KitChains.{KitChains}
use Rattle.rr_reading.specs.declared.dir.directory.ChainRef.{ChainRef}
use Rattle.rr_images.specs.Plans.{LaidChain, laid_as, AreLaid}
use Rattle.rr_pages.specs.Laying.{joined}
use Rattle.rr_pages.specs.declared.chain.FreshPage.{FreshPage}
use Rattle.rr_reading.specs.Worlds.Spelling.{ref_of}
use Rattle.rr_reading.specs.Worlds.World.{World}

-- a chain was laid that has these bytes, and the reference is to it
pub record IsRefTo (chain : LaidChain) (bytes : List ℕ) (ref : ChainRef) : Type 0 where
  pub whole : joined chain.pieces ≡ bytes
  pub named : ref ≡ ref_of (laid_as chain)

-- the four texts of a world were laid one after another, and nothing else
pub record IsKitLaid (present coming after : List Bool) (fresh : List FreshPage) (world : World)
    (kit : KitChains) : Type 0 where
  pub chart : LaidChain
  pub roster : LaidChain
  pub tiles : LaidChain
  pub board : LaidChain
  pub to_chart : IsRefTo chart world.chart kit.chart
  pub to_roster : IsRefTo roster world.roster kit.roster
  pub to_tiles : IsRefTo tiles world.tiles kit.tiles
  pub to_board : IsRefTo board world.board kit.board
  pub laid : AreLaid present coming after fresh (chart ∷ roster ∷ tiles ∷ board ∷ [])
