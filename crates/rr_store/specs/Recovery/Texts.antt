-- The texts of a kit in a file's chains.
use Rattle.std.specs.Prelude.{◌≡◌}
use Rattle.rr_reading.specs.declared.dir.directory.KitChains.{KitChains}
use Rattle.rr_kit.specs.Kits.{KitTexts, texts_of}
use Rattle.rr_reading.specs.Held.{TextChains}
use Rattle.rr_reading.specs.Worlds.Spelling.{ref_of}

-- the texts that the chains hold
abbrev pub texts_in : TextChains → KitTexts
texts_in texts = texts_of texts.chart.text texts.roster.text texts.tiles.text texts.board.text

-- a directory names these chains of texts
pub record NameTexts (kit : KitChains) (texts : TextChains) : Type 0 where
  pub of_chart : kit.chart ≡ ref_of texts.chart
  pub of_roster : kit.roster ≡ ref_of texts.roster
  pub of_tiles : kit.tiles ≡ ref_of texts.tiles
  pub of_board : kit.board ≡ ref_of texts.board
