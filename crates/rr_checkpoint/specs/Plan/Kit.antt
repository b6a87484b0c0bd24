-- Where the texts of a kit stand.
use Rattle.std.specs.Prelude.{◌≡◌, ℕ, List, ◌++◌}
use Rattle.rr_reading.specs.declared.dir.directory.KitChains.{KitChains}
use Rattle.rr_images.specs.Holding.{HeldChain}
use Rattle.rr_reading.specs.Held.{TextChains}
use Rattle.rr_checkpoint.specs.declared.plan.kit.KitPages.{KitPages}
use Rattle.rr_checkpoint.specs.declared.plan.kit.TextPages.{TextPages}
use Rattle.rr_reading.specs.Worlds.Spelling.{ref_of}

-- the chains as a directory names them
abbrev pub kit_chains : KitPages → KitChains
kit_chains kit =
    record { chart = kit.chart.chain; roster = kit.roster.chain; tiles = kit.tiles.chain; board = kit.board.chain }

-- all their pages
abbrev pub text_pages : KitPages → List ℕ
text_pages kit =
    kit.chart.pages.items ++ (kit.roster.pages.items ++ (kit.tiles.pages.items ++ kit.board.pages.items))

-- a text's chain is this one
pub record IsTextChain (text : TextPages) (chain : HeldChain) : Type 0 where
  pub named : text.chain ≡ ref_of chain
  pub on_pages : text.pages.items ≡ chain.pages

-- the chains of the four texts are these
pub record AreTextChains (kit : KitPages) (texts : TextChains) : Type 0 where
  pub of_chart : IsTextChain kit.chart texts.chart
  pub of_roster : IsTextChain kit.roster texts.roster
  pub of_tiles : IsTextChain kit.tiles texts.tiles
  pub of_board : IsTextChain kit.board texts.board
